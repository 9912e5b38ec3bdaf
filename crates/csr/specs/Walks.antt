-- SPDX-FileCopyrightText: 2026 The PPVM Authors
-- SPDX-License-Identifier: Apache-2.0

-- Contracts between functions: the one walk of the product. It passes a row where all is well, and stops at the first where anything is amiss. It skips no zero.
use Rattle.std.specs.Prelude.{ℕ, zero, suc, ◌+◌, ◌≡◌, Bool, true, false, not, ◌&&◌, ◌||◌, cond, List, ◌++◌, map, eqb, leb, Float, pos, negsuc, get_or, length, take, drop, Ok}
use Rattle.std.specs.Float.{nan, inf, fin, binary64}
use Rattle.std.specs.Float.Ieee.{add}
use Rattle.number.specs.Floats.{is_finite}
use Rattle.lent.specs.Tests.{first_to}
use Rattle.lent.specs.Numbers.{not_finite}
use Rattle.word.specs.Count.{up_to}
use Rattle.matrix_row.specs.Rows.{row_of, row_entries}
use Rattle.matrix_row.specs.Walks.{bad_place, full_sum}
use Rattle.csr.specs.Products.{table_tests, product}

-- +0.0, which −0.0 is not
unfoldable pub is_clear : Float → Bool
is_clear nan = false
is_clear (inf s) = false
is_clear (fin true m e) = false
is_clear (fin false (suc m) e) = false
is_clear (fin false zero (negsuc k)) = false
is_clear (fin false zero (pos k)) = eqb k 0

abbrev pub not_clear : List Float → ℕ → Bool
not_clear l k = not (is_clear (get_or l k nan))

-- the first numbers of work are +0.0; those of input are finite, and those of output where they are added to
pub record Ready (input : List Float) (overwrite : Bool) (output work : List Float) : Type 0 where
  pub clear : first_to (length input) (not_clear work) ≡ length input
  pub finite : first_to (length input) (not_finite input) ≡ length input
  pub added : overwrite ≡ false → first_to (length input) (not_finite output) ≡ length input

module _ (offsets columns : List ℕ) (values input : List Float) where
  -- whether row r stands inside, with its columns in their places
  unfoldable pub row_passes : ℕ → Bool
  row_passes r =
      (leb (get_or offsets r 0) (get_or offsets (r + 1) 0) && leb (get_or offsets (r + 1) 0) (length columns))
      && leb (length (row_of offsets columns r)) (first_to (length (row_of offsets columns r)) (bad_place (length input) (row_of offsets columns r)))

  module _ (overwrite : Bool) (output : List Float) where
    -- what the walk stores at row r
    unfoldable pub full_at : ℕ → Float
    full_at r =
        cond overwrite (full_sum input (row_entries offsets columns values r))
        (add binary64 (get_or output r nan) (full_sum input (row_entries offsets columns values r)))

    unfoldable pub full_product : List Float
    full_product = map full_at (up_to 0 (length input))

    unfoldable pub row_stops : ℕ → Bool
    row_stops r = not (row_passes r) || not (is_finite (full_at r))

    -- how many rows were passed; what is to be stored there stands in work
    pub record Walked (work : List Float) (done : ℕ) (work' : List Float) : Type 0 where
      pub stopped : done ≡ first_to (length input) row_stops
      pub laid : work' ≡ take done full_product ++ drop done work

    -- all tests pass, all that is to be stored is finite, and it stands in work; or nothing is changed
    pub record Quick (work : List Float) (summed : Bool) (work' : List Float) : Type 0 where
      pub passed : summed ≡ true → (table_tests (length input) offsets columns values input overwrite output (Ok tt) ≡ Ok tt) × (first_to (length input) (not_finite (product (length input) offsets columns values input overwrite output)) ≡ length input) × (work' ≡ product (length input) offsets columns values input overwrite output ++ drop (length input) work)
      pub kept : summed ≡ false → work' ≡ work
