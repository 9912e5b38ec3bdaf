-- SPDX-FileCopyrightText: 2026 The PPVM Authors
-- SPDX-License-Identifier: Apache-2.0

-- What lasts over the loop of `column::diagonal_of`.
use Rattle.column_norm.proofs.ColumnLaws.{DiagState}
use Rattle.column_norm.proofs.column.diagonal_of.Given as goal

abbrev pub invariant-loop-i : goal.invariant-loop-i
invariant-loop-i l = DiagState l.len l.words l.sums l.w l.i
