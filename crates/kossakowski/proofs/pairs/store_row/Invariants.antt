-- SPDX-FileCopyrightText: 2026 The PPVM Authors
-- SPDX-License-Identifier: Apache-2.0

-- What lasts over the loop of `pairs::store_row`.
use Rattle.number.specs.Floats.{cx}
use Rattle.model.specs.Between.{onto}
use Rattle.k_matrix.specs.Pairs.{factor_of}
use Rattle.kossakowski.proofs.PairLaws.{RowState}
use Rattle.kossakowski.proofs.pairs.store_row.Given as goal

abbrev pub invariant-loop-j : goal.invariant-loop-j
invariant-loop-j l = RowState (factor_of (cx l.k) (onto l.a)) l.fn.right l.at l.words l.numbers l.initial.t_words l.initial.t_numbers l.t_words l.t_numbers l.j
