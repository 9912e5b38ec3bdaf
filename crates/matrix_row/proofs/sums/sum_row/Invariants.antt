-- SPDX-FileCopyrightText: 2026 The PPVM Authors
-- SPDX-License-Identifier: Apache-2.0

-- What lasts over the loop of `sums::sum_row`.
use Rattle.matrix_row.proofs.SumLaws.{Passing}
use Rattle.matrix_row.proofs.sums.sum_row.Given as goal

abbrev pub invariant-loop-k : goal.invariant-loop-k
invariant-loop-k l = Passing l.input l.columns l.values l.sum l.least l.k
