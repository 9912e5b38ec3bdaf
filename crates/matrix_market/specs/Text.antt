-- SPDX-FileCopyrightText: 2026 The PPVM Authors
-- SPDX-License-Identifier: Apache-2.0

-- The text of a square matrix in the Matrix Market form `coordinate integer general`, as a list of bytes: header, size line, and a line
-- for each entry. Numbers are decimal, without leading zeros and without a plus sign; a minus sign stands only before a number that is
-- not 0. Fields part by one space, lines end in a newline.
use Rattle.std.specs.Prelude.{ℕ, zero, suc, ◌+◌, ◌/◌, ◌%◌, Bool, true, false, List, [], ◌∷◌, ◌++◌, length, ℤ, pos, negsuc, nat_lt}

-- an entry as it is written: row and column counted from 1
pub record Line : Type 0 where
  pub row : ℕ
  pub column : ℕ
  pub count : ℤ

abbrev pub newline : ℕ
newline = 10

abbrev pub space : ℕ
space = 32

abbrev pub minus : ℕ
minus = 45

-- ---- numbers
-- the byte of a digit
abbrev pub digit : ℕ → ℕ
digit n = 48 + n

-- A number below 10 is one digit; any other has the digits of n / 10, and then n % 10. The first argument bounds how many come before
-- the last one, and the test says whether n is below 10.
unfoldable pub digits_to : ℕ → Bool → ℕ → List ℕ
digits_to zero small n = digit n ∷ []
digits_to (suc more) true n = digit n ∷ []
digits_to (suc more) false n = digits_to more (nat_lt (n / 10) 10) (n / 10) ++ (digit (n % 10) ∷ [])

-- n has no more than n digits, but for 0
unfoldable pub natural : ℕ → List ℕ
natural n = digits_to n (nat_lt n 10) n

-- pos n is n, and negsuc n is −(n + 1)
unfoldable pub whole : ℤ → List ℕ
whole (pos n) = natural n
whole (negsuc n) = minus ∷ natural (suc n)

-- ---- lines
-- a number and the byte after it
unfoldable pub field : ℕ → ℕ → List ℕ
field after n = natural n ++ (after ∷ [])

unfoldable pub line_text : Line → List ℕ
line_text l = field space l.row ++ (field space l.column ++ (whole l.count ++ (newline ∷ [])))

unfoldable pub lines_text : List Line → List ℕ
lines_text [] = []
lines_text (l ∷ ls) = line_text l ++ lines_text ls

-- rows, columns, entries
unfoldable pub size_line : ℕ → ℕ → List ℕ
size_line n entries = field space n ++ (field space n ++ field newline entries)

-- %%MatrixMarket matrix coordinate integer general
unfoldable pub header : List ℕ
header =
    37 ∷ 37 ∷ 77 ∷ 97 ∷ 116 ∷ 114 ∷ 105 ∷ 120 ∷ 77 ∷ 97 ∷ 114 ∷ 107 ∷ 101 ∷ 116 ∷ space
    ∷ 109 ∷ 97 ∷ 116 ∷ 114 ∷ 105 ∷ 120 ∷ space
    ∷ 99 ∷ 111 ∷ 111 ∷ 114 ∷ 100 ∷ 105 ∷ 110 ∷ 97 ∷ 116 ∷ 101 ∷ space
    ∷ 105 ∷ 110 ∷ 116 ∷ 101 ∷ 103 ∷ 101 ∷ 114 ∷ space
    ∷ 103 ∷ 101 ∷ 110 ∷ 101 ∷ 114 ∷ 97 ∷ 108 ∷ newline ∷ []

-- a matrix of n rows and n columns
unfoldable pub text_of : ℕ → List Line → List ℕ
text_of n ls = header ++ (size_line n (length ls) ++ lines_text ls)
