-- SPDX-FileCopyrightText: 2026 The PPVM Authors
-- SPDX-License-Identifier: Apache-2.0

-- Contracts between functions: the walk through a row. It skips no zero, and stops at a column that is amiss.
use Rattle.std.specs.Prelude.{◌≡◌, ℕ, zero, suc, Bool, ◌||◌, List, [], ◌∷◌, length, nat_le, nat_lt, slice_index, slice_index_or, Float}
use Rattle.std.specs.Float.{nan, binary64}
use Rattle.std.specs.Float.Ieee.{add, mul}
use Rattle.number.specs.Floats.{float0}
use Rattle.lent.specs.Tests.{first_to}
use Rattle.matrix_row.specs.Rows.{RowEntry, beside}
use Rattle.matrix_row.specs.declared.sums.RowSum.{RowSum}

-- the least column that may stand at place k of a row: one above the column before it
unfoldable pub least_at : List ℕ → ℕ → ℕ
least_at cs zero = 0
least_at cs (suc k) = suc (slice_index cs k)

-- a column that does not rise, or is not below the count of rows
unfoldable pub misplaced : ℕ → ℕ → ℕ → Bool
misplaced least rows column = nat_lt column least || nat_le rows column

unfoldable pub bad_place : ℕ → List ℕ → ℕ → Bool
bad_place rows cs k = misplaced (least_at cs k) rows (slice_index cs k)

-- every product added, those with a zero too
module _ (input : List Float) where
  unfoldable pub add_product : Float → RowEntry → Float
  add_product s e = add binary64 s (mul binary64 e.value (slice_index_or input e.column nan))

  unfoldable pub add_products : Float → List RowEntry → Float
  add_products s [] = s
  add_products s (e ∷ es) = add_products (add_product s e) es

  abbrev pub full_sum : List RowEntry → Float
  full_sum es = add_products float0 es

-- how many columns stand in their places, and the sum where it is all of them
pub record RowWalked (input : List Float) (cs : List ℕ) (vs : List Float) (r : RowSum) : Type 0 where
  pub stopped : r.passed ≡ first_to (length cs) (bad_place (length input) cs)
  pub summed : r.passed ≡ length cs → r.sum ≡ full_sum input (beside cs vs)
