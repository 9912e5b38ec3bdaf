-- SPDX-FileCopyrightText: 2026 The PPVM Authors
-- SPDX-License-Identifier: Apache-2.0

-- `write::line_length` meets its contract. Assumes nothing.
use Rattle.std.proofs.Common.{◌≡◌, ◌+◌, length, refl, add-one, arith}
use Rattle.matrix_market.specs.Text.{natural}
use Rattle.matrix_market.specs.Between.{count_text}
use Rattle.matrix_market.proofs.NaturalLaws.{natural_64}
use Rattle.matrix_market.proofs.LineLaws.{line_long}
use Rattle.matrix_market.proofs.write.line_length.Goals as goal

pub overflow_add-numbers : goal.overflow_add-numbers
overflow_add-numbers c =
    let e = natural_64 (c.args.row + 1) (omega arith) in
    let f = natural_64 (c.args.column + 1) (omega arith) in
    omega (arith, e, f, c.digits_of.ensures, c.digits_of-2.ensures)

pub overflow_add-numbers-2 : goal.overflow_add-numbers-2
overflow_add-numbers-2 c =
    let e = natural_64 (c.args.row + 1) (omega arith) in
    let f = natural_64 (c.args.column + 1) (omega arith) in
    let g = natural_64 c.count_of-c.result.size (omega (arith, c.count_of-c.ensures.small)) in
    omega (arith, e, f, g, c.digits_of.ensures, c.digits_of-2.ensures, c.digits_of-3.ensures)

pub overflow_add-result : goal.overflow_add-result
overflow_add-result c =
    let e = natural_64 (c.args.row + 1) (omega arith) in
    let f = natural_64 (c.args.column + 1) (omega arith) in
    let g = natural_64 c.count_of-c.result.size (omega (arith, c.count_of-c.ensures.small)) in
    omega (arith, e, f, g, c.digits_of.ensures, c.digits_of-2.ensures, c.digits_of-3.ensures)

pub returns-then-minus : goal.returns-then-minus
returns-then-minus c =
    let a = c.args in
    let l = line_long a.row a.column a.value c.count_of-c.result c.count_of-c.ensures in
    let t : length (count_text c.count_of-c.result) ≡ length (natural c.count_of-c.result.size) + 1 = rw (c.if-minus.true, add-one) refl in
    omega (arith, l, t, c.digits_of.ensures, c.digits_of-2.ensures, c.digits_of-3.ensures)

pub overflow_add-result-2 : goal.overflow_add-result-2
overflow_add-result-2 c =
    let e = natural_64 (c.args.row + 1) (omega arith) in
    let f = natural_64 (c.args.column + 1) (omega arith) in
    let g = natural_64 c.count_of-c.result.size (omega (arith, c.count_of-c.ensures.small)) in
    omega (arith, e, f, g, c.digits_of.ensures, c.digits_of-2.ensures, c.digits_of-3.ensures)

pub returns : goal.returns
returns c =
    let a = c.args in
    let l = line_long a.row a.column a.value c.count_of-c.result c.count_of-c.ensures in
    let t : length (count_text c.count_of-c.result) ≡ length (natural c.count_of-c.result.size) = rw c.if-minus.false refl in
    omega (arith, l, t, c.digits_of.ensures, c.digits_of-2.ensures, c.digits_of-3.ensures)
