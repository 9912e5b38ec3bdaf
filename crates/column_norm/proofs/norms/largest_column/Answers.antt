-- SPDX-FileCopyrightText: 2026 The PPVM Authors
-- SPDX-License-Identifier: Apache-2.0

-- `norms::largest_column` meets its contract: before each column, the largest so far beside those that are left. Assumes nothing.
use Rattle.column_norm.proofs.NormLaws.{largest_more, largest_done}
use Rattle.column_norm.proofs.norms.largest_column.Goals as goal

pub loop-i-preserved : goal.loop-i-preserved
loop-i-preserved c =
    let l = c.loop-i in
    largest_more c.args.mu c.args.len c.args.raws.now c.args.diags.now c.requires.0 c.requires.1 l.norm l.i l.invariant c.loop-i-test.true _ _ c.column_norm-column.ensures c.larger-norm.ensures

pub returns : goal.returns
returns c =
    let l = c.loop-i in
    largest_done c.args.mu c.args.len c.args.raws.now c.args.diags.now c.requires.0 c.requires.1 l.norm l.i l.invariant c.loop-i-test.false
