-- SPDX-FileCopyrightText: 2026 The PPVM Authors
-- SPDX-License-Identifier: Apache-2.0

-- What lasts over the loop of `pairs::store_pairs`.
use Rattle.sums.specs.Numbers.{complexes}
use Rattle.kossakowski.proofs.PairsLaws.{StoreState}
use Rattle.kossakowski.proofs.pairs.store_pairs.Given as goal

abbrev pub invariant-loop-p : goal.invariant-loop-p
invariant-loop-p l =
    StoreState l.from l.first l.at (complexes l.k) l.counts l.initial.words l.initial.sums l.initial.jumps l.initial.rates l.initial.t_words l.initial.t_numbers l.words l.sums l.jumps l.rates l.t_words l.t_numbers l.place l.j l.p
