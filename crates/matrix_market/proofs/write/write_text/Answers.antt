-- SPDX-FileCopyrightText: 2026 The PPVM Authors
-- SPDX-License-Identifier: Apache-2.0

-- `write::write_text` meets its contract: header, size line and lines, one after another. Assumes nothing.
use Rattle.std.proofs.Common.{◌≡◌, ◌+◌, ◌≤◌, List, ◌++◌, length, refl, ap, ◌∙◌, zero-add, arith}
use Rattle.matrix_market.specs.Text.{Line, header, size_line, lines_text, text_of}
use Rattle.matrix_market.proofs.LaidLaws.{room_first, room_rest, three_laid}
use Rattle.matrix_market.proofs.LineLaws.{lines, lines_long}
use Rattle.matrix_market.proofs.write.write_text.Goals as goal

pub write_header-requires : goal.write_header-requires
unfolding text_of
write_header-requires c =
    let a = c.args in
    let ls : List Line = lines a.count a.rows.now a.columns.now a.values.now in
    let e : size_line a.n (length ls) ≡ size_line a.n a.count = ap (size_line a.n) (lines_long a.count a.rows.now a.columns.now a.values.now c.requires.0.rows_long c.requires.0.columns_long c.requires.0.values_long) in
    let q : length (header ++ (size_line a.n a.count ++ lines_text ls)) ≤ length a.text.now = rw e at c.requires.1 in
    let p : 0 + length (header ++ (size_line a.n a.count ++ lines_text ls)) ≤ length a.text.now = omega (arith, q) in
    let r = room_first 0 _ header (size_line a.n a.count ++ lines_text ls) p in
    omega (arith, r)

pub write_size-after_size-requires : goal.write_size-after_size-requires
unfolding text_of header
write_size-after_size-requires c =
    let a = c.args in
    let ls : List Line = lines a.count a.rows.now a.columns.now a.values.now in
    let e : size_line a.n (length ls) ≡ size_line a.n a.count = ap (size_line a.n) (lines_long a.count a.rows.now a.columns.now a.values.now c.requires.0.rows_long c.requires.0.columns_long c.requires.0.values_long) in
    let q : length (header ++ (size_line a.n a.count ++ lines_text ls)) ≤ length a.text.now = rw e at c.requires.1 in
    let p : 0 + length (header ++ (size_line a.n a.count ++ lines_text ls)) ≤ length a.text.now = omega (arith, q) in
    let h = room_rest 0 49 _ header (size_line a.n a.count ++ lines_text ls) refl p in
    let g = room_first 49 _ (size_line a.n a.count) (lines_text ls) h in
    omega (arith, g, c.write_header.auto.text)

pub write_lines-requires : goal.write_lines-requires
unfolding text_of header
write_lines-requires c =
    let a = c.args in
    let ls : List Line = lines a.count a.rows.now a.columns.now a.values.now in
    let e : size_line a.n (length ls) ≡ size_line a.n a.count = ap (size_line a.n) (lines_long a.count a.rows.now a.columns.now a.values.now c.requires.0.rows_long c.requires.0.columns_long c.requires.0.values_long) in
    let q : length (header ++ (size_line a.n a.count ++ lines_text ls)) ≤ length a.text.now = rw e at c.requires.1 in
    let p : 0 + length (header ++ (size_line a.n a.count ++ lines_text ls)) ≤ length a.text.now = omega (arith, q) in
    let h = room_rest 0 49 _ header (size_line a.n a.count ++ lines_text ls) refl p in
    let g = room_rest 49 c.write_size-after_size.result _ (size_line a.n a.count) (lines_text ls) c.write_size-after_size.ensures.1 h in
    (c.requires.0, omega (arith, g, c.write_header.auto.text, c.write_size-after_size.auto.text))

pub returns : goal.returns
unfolding text_of header
returns c =
    let a = c.args in
    let ls : List Line = lines a.count a.rows.now a.columns.now a.values.now in
    let e : size_line a.n (length ls) ≡ size_line a.n a.count = ap (size_line a.n) (lines_long a.count a.rows.now a.columns.now a.values.now c.requires.0.rows_long c.requires.0.columns_long c.requires.0.values_long) in
    let q : length (header ++ (size_line a.n a.count ++ lines_text ls)) ≤ length a.text.now = rw e at c.requires.1 in
    let p : 0 + length (header ++ (size_line a.n a.count ++ lines_text ls)) ≤ length a.text.now = omega (arith, q) in
    let t = three_laid 0 49 _ _ header (size_line a.n a.count) (lines_text ls) a.text.now _ _ _ c.write_header.ensures refl c.write_size-after_size.ensures.0 c.write_size-after_size.ensures.1 c.write_lines.ensures.0 c.write_lines.ensures.1 in
    rw e (t.0, t.1 ∙ zero-add _)
