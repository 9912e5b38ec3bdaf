-- SPDX-FileCopyrightText: 2026 The PPVM Authors
-- SPDX-License-Identifier: Apache-2.0

-- What lasts over the loop of `check::first_misplaced`.
use Rattle.lent.proofs.Firsts.{NoneBefore}
use Rattle.matrix_row.specs.Walks.{bad_place}
use Rattle.matrix_row.proofs.PlaceLaws.{Placed}
use Rattle.csr.proofs.check.first_misplaced.Given as goal

abbrev pub invariant-loop-k : goal.invariant-loop-k
invariant-loop-k l = Placed l.rows l.columns l.least l.k × NoneBefore (bad_place l.rows l.columns) l.k
