-- SPDX-FileCopyrightText: 2026 The PPVM Authors
-- SPDX-License-Identifier: Apache-2.0

-- What lasts over the loop of `pairs::store_factors`.
use Rattle.number.specs.Floats.{cx}
use Rattle.kossakowski.proofs.PairLaws.{FactorsState}
use Rattle.kossakowski.proofs.pairs.store_factors.Given as goal

abbrev pub invariant-loop-i : goal.invariant-loop-i
invariant-loop-i l = FactorsState (cx l.k) l.fn.left l.right l.at l.words l.numbers l.initial.t_words l.initial.t_numbers l.t_words l.t_numbers l.i l.place
