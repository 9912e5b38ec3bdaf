-- SPDX-FileCopyrightText: 2026 The PPVM Authors
-- SPDX-License-Identifier: Apache-2.0

-- The rows of a lent matrix: where each stands by the offsets, its columns, its entries, and their sum with a vector.
use Rattle.std.specs.Prelude.{ℕ, ◌+◌, ◌-◌, cond, ◌&&◌, List, [], ◌∷◌, length, take, drop, nat_le, nat_lt, slice_index, slice_index_or, Float}
use Rattle.std.specs.Float.{nan, binary64}
use Rattle.std.specs.Float.Ieee.{add, mul, eq}
use Rattle.number.specs.Floats.{float0}
use Rattle.matrix_row.specs.declared.rows.Row.{Row}

-- row r stands from its own offset to before the next one; nowhere if there is no such row, or if the two do not lie inside so many
-- places
unfoldable pub row_at : List ℕ → ℕ → ℕ → Row
row_at offsets places r =
    cond (nat_lt (r + 1) (length offsets) && (nat_le (slice_index offsets r) (slice_index offsets (r + 1)) && nat_le (slice_index offsets (r + 1)) places))
    (record { start = slice_index offsets r; end = slice_index offsets (r + 1) })
    (record { start = 0; end = 0 })

module _ {A : Type 0} where
  -- what stands in the places of a row
  unfoldable pub part_of : Row → List A → List A
  part_of row l = take (row.end - row.start) (drop row.start l)

-- the columns of row r
unfoldable pub row_of : List ℕ → List ℕ → ℕ → List ℕ
row_of offsets columns r = part_of (row_at offsets (length columns) r) columns

-- ---- the sum of a row
pub record RowEntry : Type 0 where
  pub column : ℕ
  pub value : Float

-- columns beside their values
unfoldable pub beside : List ℕ → List Float → List RowEntry
beside [] vs = []
beside (c ∷ cs) [] = []
beside (c ∷ cs) (v ∷ vs) = record { column = c; value = v } ∷ beside cs vs

-- the entries of row r
unfoldable pub row_entries : List ℕ → List ℕ → List Float → ℕ → List RowEntry
row_entries offsets columns values r = beside (row_of offsets columns r) (part_of (row_at offsets (length columns) r) values)

module _ (input : List Float) where
  -- value × input added to a sum; nothing where the input is zero
  unfoldable pub add_entry : Float → RowEntry → Float
  add_entry s e = cond (eq (slice_index_or input e.column nan) float0) s (add binary64 s (mul binary64 e.value (slice_index_or input e.column nan)))

  -- one entry after another
  unfoldable pub add_entries : Float → List RowEntry → Float
  add_entries s [] = s
  add_entries s (e ∷ es) = add_entries (add_entry s e) es

  -- from 0
  abbrev pub row_sum : List RowEntry → Float
  row_sum es = add_entries float0 es
