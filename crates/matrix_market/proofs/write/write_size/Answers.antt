-- SPDX-FileCopyrightText: 2026 The PPVM Authors
-- SPDX-License-Identifier: Apache-2.0

-- `write::write_size` meets its contract: three fields, one after another. Assumes nothing.
use Rattle.std.proofs.Common.{◌++◌, arith}
use Rattle.matrix_market.specs.Text.{field, size_line}
use Rattle.matrix_market.proofs.LaidLaws.{room_first, room_rest, three_laid}
use Rattle.matrix_market.proofs.write.write_size.Goals as goal

pub write_field-after_rows-requires : goal.write_field-after_rows-requires
unfolding size_line
write_field-after_rows-requires c = let a = c.args in room_first a.at _ (field 32 a.n) (field 32 a.n ++ field 10 a.count) c.requires

pub write_field-after_columns-requires : goal.write_field-after_columns-requires
unfolding size_line
write_field-after_columns-requires c =
    let a = c.args in
    let h = room_rest a.at c.write_field-after_rows.result _ (field 32 a.n) (field 32 a.n ++ field 10 a.count) c.write_field-after_rows.ensures.1 c.requires in
    let g = room_first c.write_field-after_rows.result _ (field 32 a.n) (field 10 a.count) h in
    omega (arith, g, c.write_field-after_rows.auto.text)

pub write_field-requires : goal.write_field-requires
unfolding size_line
write_field-requires c =
    let a = c.args in
    let h = room_rest a.at c.write_field-after_rows.result _ (field 32 a.n) (field 32 a.n ++ field 10 a.count) c.write_field-after_rows.ensures.1 c.requires in
    let g = room_rest c.write_field-after_rows.result c.write_field-after_columns.result _ (field 32 a.n) (field 10 a.count) c.write_field-after_columns.ensures.1 h in
    omega (arith, g, c.write_field-after_rows.auto.text, c.write_field-after_columns.auto.text)

pub returns : goal.returns
unfolding size_line
returns c =
    let a = c.args in
    three_laid a.at _ _ _ (field 32 a.n) (field 32 a.n) (field 10 a.count) a.text.now _ _ _ c.write_field-after_rows.ensures.0 c.write_field-after_rows.ensures.1 c.write_field-after_columns.ensures.0 c.write_field-after_columns.ensures.1 c.write_field.ensures.0 c.write_field.ensures.1
