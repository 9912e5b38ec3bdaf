-- SPDX-FileCopyrightText: 2026 The PPVM Authors
-- SPDX-License-Identifier: Apache-2.0

-- What lasts over the loop of `norms::largest_column`.
use Rattle.column_norm.proofs.NormLaws.{LargestState}
use Rattle.column_norm.proofs.norms.largest_column.Given as goal

abbrev pub invariant-loop-i : goal.invariant-loop-i
invariant-loop-i l = LargestState l.mu l.len l.raws l.diags l.norm l.i
