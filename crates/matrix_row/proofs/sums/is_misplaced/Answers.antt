-- SPDX-FileCopyrightText: 2026 The PPVM Authors
-- SPDX-License-Identifier: Apache-2.0

-- `sums::is_misplaced` meets its contract. Assumes nothing.
use Rattle.std.proofs.Common.{arith}
use Rattle.matrix_row.proofs.PlaceLaws.{one_test}
use Rattle.matrix_row.proofs.sums.is_misplaced.Goals as goal

pub returns : goal.returns
returns c =
    let a = c.args in
    one_test a.column a.least a.rows c.wrapping_sub_u64-step.result c.requires (omega arith) (omega arith) c.wrapping_sub_u64-step.ensures.value
