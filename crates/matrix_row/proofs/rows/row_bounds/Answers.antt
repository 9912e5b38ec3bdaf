-- SPDX-FileCopyrightText: 2026 The PPVM Authors
-- SPDX-License-Identifier: Apache-2.0

-- `rows::row_bounds` meets its contract, answer by answer. Assumes nothing.
use Rattle.std.proofs.Common.{sym, arith}
use Rattle.matrix_row.proofs.RowLaws.{row_missing, row_falling, row_outside, row_is}
use Rattle.matrix_row.proofs.rows.row_bounds.Goals as goal

pub returns-then-len-row : goal.returns-then-len-row
returns-then-len-row c = let a = c.args in row_missing a.offsets.now a.places a.row (omega arith)

pub returns-then-len-row-2 : goal.returns-then-len-row-2
returns-then-len-row-2 c = let a = c.args in row_missing a.offsets.now a.places a.row c.if-len-row-2.true

pub returns-then-end-start : goal.returns-then-end-start
returns-then-end-start c =
    let a = c.args in
    row_falling a.offsets.now a.places a.row (omega arith) c.if-end-start.true

pub returns-then-places-end : goal.returns-then-places-end
returns-then-places-end c =
    let a = c.args in
    row_outside a.offsets.now a.places a.row (omega arith) c.if-end-start.false c.if-places-end.true

pub returns : goal.returns
returns c =
    let a = c.args in
    sym (row_is a.offsets.now a.places a.row (omega arith) c.if-end-start.false c.if-places-end.false)
