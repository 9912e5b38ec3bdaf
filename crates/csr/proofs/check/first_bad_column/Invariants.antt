-- SPDX-FileCopyrightText: 2026 The PPVM Authors
-- SPDX-License-Identifier: Apache-2.0

-- What lasts over the loop of `check::first_bad_column`.
use lib.ListN.{get_or}
use Rattle.lent.proofs.Firsts.{NoneBefore}
use Rattle.csr.specs.Lent.{bad_column}
use Rattle.csr.proofs.check.first_bad_column.Given as goal

abbrev pub invariant-loop-r : goal.invariant-loop-r
invariant-loop-r l = NoneBefore (bad_column l.rows l.offsets l.columns) (get_or l.offsets l.r 0)
