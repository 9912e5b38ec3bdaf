-- SPDX-FileCopyrightText: 2026 The PPVM Authors
-- SPDX-License-Identifier: Apache-2.0

-- What lasts over the loop of `norms::mean`.
use Rattle.column_norm.proofs.NormLaws.{SumState}
use Rattle.column_norm.proofs.norms.mean.Given as goal

abbrev pub invariant-loop-i : goal.invariant-loop-i
invariant-loop-i l = SumState l.len l.diags l.sum l.i
