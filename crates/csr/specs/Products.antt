-- SPDX-FileCopyrightText: 2026 The PPVM Authors
-- SPDX-License-Identifier: Apache-2.0

-- The product of a lent matrix by rows with a vector: refusals in their order, the answer, and every lent table afterwards.
use Rattle.std.specs.Prelude.{ℕ, Bool, cond, List, [], ◌∷◌, map, ltb, Float, get_or, length, replicate, Ok, Err}
use Rattle.std.specs.Float.{nan, binary64}
use Rattle.std.specs.Float.Ieee.{add}
use Rattle.refusal.specs.declared.Refusal.{Refusal}
use Rattle.refusal.specs.declared.Refusal.TheVariants.{SumNotFinite}
use Rattle.refusal.specs.Cause.{Answer}
use Rattle.number.specs.Floats.{float0}
use Rattle.lent.specs.Tests.{in_turn, lent, first_to, entries, equal}
use Rattle.lent.specs.Numbers.{not_finite}
use Rattle.word.specs.Count.{up_to}
use Rattle.csr.specs.Lent.{rows_tests, places_tests}
use Rattle.matrix_row.specs.Rows.{row_entries, row_sum}

-- ---- what a call answers, and the lent tables afterwards
pub record Multiplying : Type 0 where
  pub answer : Answer
  pub output : List Float
  pub work : List Float

-- 8, 9
abbrev pub length_tests : ℕ → List ℕ → List ℕ → List Float → List Float → List Float → List Float → Answer → Answer
length_tests rows offsets columns values input output work after =
    in_turn (
    rows_tests rows offsets
    ∷ equal (length columns) (length values)
    ∷ equal rows (length input)
    ∷ equal rows (length output)
    ∷ lent rows (length work)
    ∷ []) after

module _ (rows : ℕ) (offsets columns : List ℕ) (values input : List Float) (overwrite : Bool) (output : List Float) where
  -- 7
  abbrev pub table_tests : Answer → Answer
  table_tests after =
      in_turn (
      places_tests rows offsets columns
      ∷ entries (length values) (not_finite values)
      ∷ entries rows (not_finite input)
      ∷ []) (cond overwrite after (entries rows (not_finite output) after))

  -- what is to be stored at row r: its sum, or the sum added to what stands there
  unfoldable pub stored_at : ℕ → Float
  stored_at r =
      cond overwrite (row_sum input (row_entries offsets columns values r))
      (add binary64 (get_or output r nan) (row_sum input (row_entries offsets columns values r)))

  unfoldable pub product : List Float
  product = map stored_at (up_to 0 rows)

  module _ (work : List Float) where
    -- a refusal changes nothing
    abbrev pub unchanged : Refusal → Multiplying
    unchanged r = record { answer = Err r; output = output; work = work }

    abbrev pub tested : Answer → Multiplying → Multiplying
    tested (Ok _) after = after
    tested (Err r) after = unchanged r

    -- work is zero after acceptance and 14
    abbrev pub left : Answer → List Float → Multiplying
    left r output' = record { answer = r; output = output'; work = replicate (length work) float0 }

    -- 14 at the first row whose value to be stored is not finite
    unfoldable pub finished : Multiplying
    finished =
        cond (ltb (first_to rows (not_finite product)) rows) (left (Err (SumNotFinite (first_to rows (not_finite product)))) output)
        (left (Ok tt) product)

    unfoldable pub multiply : Multiplying
    multiply = tested (length_tests rows offsets columns values input output work (table_tests (Ok tt))) finished
