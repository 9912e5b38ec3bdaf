-- SPDX-FileCopyrightText: 2026 The PPVM Authors
-- SPDX-License-Identifier: Apache-2.0

-- `write::write_line` meets its contract: three fields, one after another. Assumes nothing.
use Rattle.std.proofs.Common.{ℕ, ◌+◌, List, [], ◌∷◌, ◌++◌, arith}
use Rattle.matrix_market.specs.Text.{field}
use Rattle.matrix_market.specs.Between.{count_text}
use Rattle.matrix_market.proofs.LaidLaws.{room_first, room_rest, three_laid}
use Rattle.matrix_market.proofs.LineLaws.{line_is}
use Rattle.matrix_market.proofs.write.write_line.Goals as goal

pub write_field-after_row-requires : goal.write_field-after_row-requires
write_field-after_row-requires c =
    let a = c.args in
    let i = line_is a.row a.column a.value c.count_of-c.result c.count_of-c.ensures in
    let p = rw i at c.requires.1 in
    let t : List ℕ = count_text c.count_of-c.result ++ (10 ∷ []) in
    room_first a.at _ (field 32 (a.row + 1)) (field 32 (a.column + 1) ++ t) p

pub write_field-after_column-requires : goal.write_field-after_column-requires
write_field-after_column-requires c =
    let a = c.args in
    let i = line_is a.row a.column a.value c.count_of-c.result c.count_of-c.ensures in
    let p = rw i at c.requires.1 in
    let t : List ℕ = count_text c.count_of-c.result ++ (10 ∷ []) in
    let h = room_rest a.at c.write_field-after_row.result _ (field 32 (a.row + 1)) (field 32 (a.column + 1) ++ t) c.write_field-after_row.ensures.1 p in
    let g = room_first c.write_field-after_row.result _ (field 32 (a.column + 1)) t h in
    omega (arith, g, c.write_field-after_row.auto.text)

pub write_count-requires : goal.write_count-requires
write_count-requires c =
    let a = c.args in
    let i = line_is a.row a.column a.value c.count_of-c.result c.count_of-c.ensures in
    let p = rw i at c.requires.1 in
    let t : List ℕ = count_text c.count_of-c.result ++ (10 ∷ []) in
    let h = room_rest a.at c.write_field-after_row.result _ (field 32 (a.row + 1)) (field 32 (a.column + 1) ++ t) c.write_field-after_row.ensures.1 p in
    let g = room_rest c.write_field-after_row.result c.write_field-after_column.result _ (field 32 (a.column + 1)) t c.write_field-after_column.ensures.1 h in
    omega (arith, g, c.write_field-after_row.auto.text, c.write_field-after_column.auto.text)

pub returns : goal.returns
returns c =
    let a = c.args in
    let i = line_is a.row a.column a.value c.count_of-c.result c.count_of-c.ensures in
    let t : List ℕ = count_text c.count_of-c.result ++ (10 ∷ []) in
    rw i (three_laid a.at _ _ _ (field 32 (a.row + 1)) (field 32 (a.column + 1)) t a.text.now _ _ _ c.write_field-after_row.ensures.0 c.write_field-after_row.ensures.1 c.write_field-after_column.ensures.0 c.write_field-after_column.ensures.1 c.write_count.ensures.0 c.write_count.ensures.1)
