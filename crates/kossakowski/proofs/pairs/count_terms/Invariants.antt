-- SPDX-FileCopyrightText: 2026 The PPVM Authors
-- SPDX-License-Identifier: Apache-2.0

-- What lasts over the loop of `pairs::count_terms`.
use Rattle.sums.specs.Numbers.{complexes}
use Rattle.kossakowski.proofs.PairsLaws.{CountState}
use Rattle.kossakowski.proofs.pairs.count_terms.Given as goal

abbrev pub invariant-loop-p : goal.invariant-loop-p
invariant-loop-p l = CountState (complexes l.k) l.counts l.initial.words l.initial.sums l.words l.sums l.kept l.p
