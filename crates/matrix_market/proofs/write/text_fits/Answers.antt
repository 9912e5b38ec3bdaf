-- SPDX-FileCopyrightText: 2026 The PPVM Authors
-- SPDX-License-Identifier: Apache-2.0

-- `write::text_fits` meets its contract: what is left of the room is what the lines passed leave. Assumes nothing.
use Rattle.matrix_market.specs.Writes.{large_at}
use Rattle.matrix_market.proofs.NaturalLaws.{natural_64}
use Rattle.matrix_market.proofs.LineLaws.{size_long}
use Rattle.std.proofs.Common.{arith}
use Rattle.matrix_market.proofs.LineLaws as LL
use Rattle.matrix_market.proofs.write.text_fits.Goals as goal

pub overflow_add-head : goal.overflow_add-head
overflow_add-head c =
    let a = c.args in
    let e = size_long a.n a.count in
    let f = natural_64 a.n (omega arith) in
    let g = natural_64 a.count (omega arith) in
    omega (arith, e, f, g, c.size_length-head.ensures)

pub returns-then-room-head : goal.returns-then-room-head
returns-then-room-head c =
    let a = c.args in
    LL.head_long a.count a.rows.now a.columns.now a.values.now c.requires.rows_long c.requires.columns_long c.requires.values_long a.n a.room (omega (arith, c.if-room-head.true, c.size_length-head.ensures))

pub line_length-line-requires : goal.line_length-line-requires
unfolding large_at
line_length-line-requires c = c.requires.small c.loop-i.i c.loop-i-test.true

pub returns-then-left-line : goal.returns-then-left-line
returns-then-left-line c =
    let a = c.args in
    LL.line_too_long a.count a.rows.now a.columns.now a.values.now c.requires.rows_long c.requires.columns_long c.requires.values_long a.n a.room c.loop-i.i c.loop-i.left c.loop-i-test.true c.loop-i.invariant (omega (arith, c.if-left-line.true, c.line_length-line.ensures))

pub loop-i-preserved : goal.loop-i-preserved
loop-i-preserved c =
    let a = c.args in
    let l = LL.left_long a.count a.rows.now a.columns.now a.values.now c.requires.rows_long c.requires.columns_long c.requires.values_long c.loop-i.i c.loop-i-test.true in
    omega (arith, l, c.loop-i.invariant, c.if-left-line.false, c.line_length-line.ensures)

pub returns : goal.returns
returns c =
    let a = c.args in
    LL.all_fit a.count a.rows.now a.columns.now a.values.now c.requires.rows_long c.requires.columns_long c.requires.values_long a.n a.room c.loop-i.i c.loop-i.left c.loop-i-test.false c.loop-i.invariant
