-- SPDX-FileCopyrightText: 2026 The PPVM Authors
-- SPDX-License-Identifier: Apache-2.0

-- Tables in lent lists, a word and a float beside it, and what entries add to one in word order.
use Rattle.std.specs.Prelude.{List, [], ◌∷◌, ℕ, Float, take}
use Rattle.word.specs.Flat.{words}
use Rattle.word.specs.Order.{before}
use Rattle.word.specs.declared.word.Word.{Word}
use Rattle.number.specs.Floats.{floats}
use Rattle.candidates.specs.Sums.{Row, row, put_over, put_all}

abbrev pub Rows : Type 0
Rows = List (Row Word Float)

-- the rows that two lists side by side make
unfoldable pub rows : List Word → List Float → Rows
rows [] xs = []
rows (w ∷ ws) [] = []
rows (w ∷ ws) (x ∷ xs) = row w x ∷ rows ws xs

-- the first n rows of the lent lists
abbrev pub candidate_rows : ℕ → List ℕ → List Float → Rows
candidate_rows n lanes sums = take n (rows (words lanes) sums)

-- one entry, in word order, by the additions of floats; sums start at 0
abbrev pub put_row : Word → Float → Rows → Rows
put_row = put_over before floats.plus floats.nought

-- the entries of a list, one after another
abbrev pub put_rows : Rows → Rows → Rows
put_rows = put_all before floats.plus floats.nought (λ (r : Row Word Float). r.word) (λ (r : Row Word Float). r.sum)
