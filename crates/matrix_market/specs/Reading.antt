-- SPDX-FileCopyrightText: 2026 The PPVM Authors
-- SPDX-License-Identifier: Apache-2.0

-- How a text of that form is read: a run of digits, a whole number, a line, the whole. Each says what it read and what is left. Of other
-- bytes nothing is claimed: a line is in the form exactly where it is the line that is written for what was read.
use Rattle.std.specs.Prelude.{ℕ, zero, suc, ◌+◌, ◌-◌, ◌*◌, Bool, cond, ◌&&◌, List, [], ◌∷◌, length, drop, ℤ, pos, neg_ℤ, ◌==◌, nat_le}
use Rattle.matrix_market.specs.Text.{Line, minus, header}

pub record Read (A : Type 0) : Type 0 where
  pub value : A
  pub rest : List ℕ

abbrev pub is_digit : ℕ → Bool
is_digit b = nat_le 48 b && nat_le b 57

-- the number that the digits before and a run of digits say
unfoldable pub read_digits : ℕ → List ℕ → Read ℕ
read_digits before [] = record { value = before; rest = [] }
read_digits before (b ∷ bs) = cond (is_digit b) (read_digits (10 * before + (b - 48)) bs) (record { value = before; rest = b ∷ bs })

abbrev pub read_natural : List ℕ → Read ℕ
read_natural bs = read_digits 0 bs

-- with the byte after it
unfoldable pub read_field : List ℕ → Read ℕ
read_field bs = record { value = (read_natural bs).value; rest = drop 1 (read_natural bs).rest }

unfoldable pub read_whole : List ℕ → Read ℤ
read_whole [] = record { value = pos 0; rest = [] }
read_whole (b ∷ bs) =
    cond (b == minus)
    (record { value = neg_ℤ (pos (read_natural bs).value); rest = (read_natural bs).rest })
    (record { value = pos (read_natural (b ∷ bs)).value; rest = (read_natural (b ∷ bs)).rest })

unfoldable pub read_line : List ℕ → Read Line
read_line bs =
    let row : Read ℕ = read_field bs in
    let column : Read ℕ = read_field row.rest in
    let count : Read ℤ = read_whole column.rest in
    record { value = record { row = row.value; column = column.value; count = count.value }; rest = drop 1 count.rest }

-- so many lines
unfoldable pub read_lines : ℕ → List ℕ → List Line
read_lines zero bs = []
read_lines (suc k) bs = (read_line bs).value ∷ read_lines k (read_line bs).rest

pub record Matrix : Type 0 where
  pub size : ℕ
  pub lines : List Line

-- after the header: rows, columns, entries, and as many lines
unfoldable pub read_text : List ℕ → Matrix
read_text bs =
    let rows : Read ℕ = read_field (drop (length header) bs) in
    let columns : Read ℕ = read_field rows.rest in
    let entries : Read ℕ = read_field columns.rest in
    record { size = rows.value; lines = read_lines entries.value entries.rest }
