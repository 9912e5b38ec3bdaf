-- SPDX-FileCopyrightText: 2026 The PPVM Authors
-- SPDX-License-Identifier: Apache-2.0

-- `write::write_lines` meets its contract: the lines passed are laid. Assumes nothing.
use Rattle.matrix_market.specs.Writes.{large_at}
use Rattle.std.proofs.Common.{arith}
use Rattle.matrix_market.proofs.LineLaws as LL
use Rattle.matrix_market.proofs.write.write_lines.Goals as goal

pub write_line-end-requires : goal.write_line-end-requires
unfolding large_at
write_line-end-requires c =
    let a = c.args in
    let l = LL.left_long a.count a.rows.now a.columns.now a.values.now c.requires.0.rows_long c.requires.0.columns_long c.requires.0.values_long c.loop-i.i c.loop-i-test.true in
    (c.requires.0.small c.loop-i.i c.loop-i-test.true, omega (arith, l, c.requires.1, c.loop-i.invariant.ends, c.loop-i.invariant.long))

pub loop-i-preserved : goal.loop-i-preserved
loop-i-preserved c =
    let a = c.args in
    LL.laid_next a.count a.rows.now a.columns.now a.values.now c.requires.0.rows_long c.requires.0.columns_long c.requires.0.values_long a.at a.text.now c.loop-i.i c.loop-i.end c.loop-i.text _ _ c.loop-i-test.true c.loop-i.invariant c.write_line-end.ensures.0 c.write_line-end.ensures.1 c.write_line-end.auto.text

pub returns : goal.returns
returns c =
    let a = c.args in
    LL.laid_end a.count a.rows.now a.columns.now a.values.now c.requires.0.rows_long c.requires.0.columns_long c.requires.0.values_long a.at a.text.now c.loop-i.i c.loop-i.end c.loop-i.text c.loop-i-test.false c.loop-i.invariant
