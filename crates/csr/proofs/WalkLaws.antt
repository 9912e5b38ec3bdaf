-- SPDX-FileCopyrightText: 2026 The PPVM Authors
-- SPDX-License-Identifier: Apache-2.0

-- The walk through all rows: where it stops, where it goes on, and what stands in work. Assumes nothing.
use mathlib.Core.Path.{◌≡◌, refl, sym, ap, ◌∙◌}
use mathlib.Core.Bool.{Bool, true, false, not, ◌&&◌, ◌||◌, cond}
use mathlib.Core.List.{List, ◌++◌}
use Prim.Native.Nat.{ℕ, ◌+◌, ◌-◌, ◌≤◌, ◌<◌}
use native.Mathlib.Omega.{arith}
use borrow.Author.Tests.{le-leb, lt-leb}
use lib.Dec.{leb}
use lib.Ieee.{Float, nan, binary64, add}
use lib.ListN.{get_or, length, take, drop, set}
use Rattle.number.specs.Floats.{is_finite}
use Rattle.lent.specs.Tests.{first_to}
use Rattle.lent.proofs.Firsts.{NoneBefore, none_more, first_here, first_none, first_inside}
use Rattle.lent.proofs.WriteLaws.{written_more}
use Rattle.word.proofs.CountLaws.{items_length, items_at}
use Rattle.matrix_row.specs.Rows.{row_at, part_of, row_of, row_entries}
use Rattle.csr.specs.Walks.{row_passes, full_at, full_product, row_stops, Walked}
use Rattle.matrix_row.specs.Walks.{bad_place, full_sum, RowWalked}
use Rattle.matrix_row.specs.declared.rows.Row.{Row}
use Rattle.matrix_row.specs.declared.sums.RowSum.{RowSum}
use Rattle.matrix_row.proofs.RowLaws.{row_is, part_length}

-- ---- tests joined
or_right : (a : Bool) {b : Bool} → b ≡ true → (a || b) ≡ true
or_right true e = refl
or_right false e = e

and_left : {a : Bool} (b : Bool) → a ≡ false → (a && b) ≡ false
and_left b e = rw e

and_right : (a : Bool) {b : Bool} → b ≡ false → (a && b) ≡ false
and_right true e = e
and_right false e = refl

module _ (offsets columns : List ℕ) (values input : List Float) where
  abbrev rows : ℕ
  rows = length input

  abbrev passes : ℕ → Bool
  passes = row_passes offsets columns values input

  -- ---- one row
  module _ (r : ℕ) where
    abbrev start : ℕ
    start = get_or offsets r 0

    abbrev end : ℕ
    end = get_or offsets (r + 1) 0

    abbrev here : Row
    here = record { start = start; end = end }

    pub falling_row : end < start → passes r ≡ false
    unfolding row_passes
    falling_row h = and_left _ (and_left (leb end (length columns)) (lt-leb start end h))

    pub outside_row : length columns < end → passes r ≡ false
    unfolding row_passes
    outside_row h = and_left _ (and_right (leb start end) (lt-leb end (length columns) h))

    module _ (there : r + 1 < length offsets) (ordered : start ≤ end) (within : end ≤ length columns) where
      row_here : row_at offsets (length columns) r ≡ here
      row_here = row_is offsets (length columns) r there ordered within

      pub columns_here : row_of offsets columns r ≡ part_of here columns
      unfolding row_of
      columns_here = ap (λ (w : Row). part_of w columns) row_here

      pub values_here : part_of (row_at offsets (length columns) r) values ≡ part_of here values
      values_here = ap (λ (w : Row). part_of w values) row_here

      long : length (part_of here columns) ≡ end - start
      long = part_length here columns ordered within

      pub passes_is : passes r ≡ leb (end - start) (first_to (end - start) (bad_place rows (part_of here columns)))
      unfolding row_passes
      passes_is = rw (le-leb start end ordered, le-leb end (length columns) within, columns_here, long)

      module _ (found : RowSum) (walked : RowWalked input (part_of here columns) (part_of here values) found) where
        found_is : found.passed ≡ first_to (end - start) (bad_place rows (part_of here columns))
        found_is = walked.stopped ∙ ap (λ (n : ℕ). first_to n (bad_place rows (part_of here columns))) long

        pub stopped_row : found.passed < end - start → passes r ≡ false
        stopped_row h = passes_is ∙ lt-leb (end - start) _ (rw found_is at h)

        module _ (all : end - start ≤ found.passed) where
          pub passed_row : passes r ≡ true
          passed_row = passes_is ∙ le-leb (end - start) _ (rw found_is at all)

          sum_here : found.sum ≡ full_sum input (row_entries offsets columns values r)
          unfolding row_entries
          sum_here =
              let i = first_inside (end - start) (bad_place rows (part_of here columns)) in
              let e : found.passed ≡ length (part_of here columns) = omega (arith, found_is, long) in
              walked.summed e ∙ rw (columns_here, values_here)

          pub stored_here_lem : (overwrite : Bool) (output : List Float) (v : Float) → v ≡ cond overwrite found.sum (add binary64 (get_or output r nan) found.sum) → v ≡ full_at offsets columns values input overwrite output r
          unfolding full_at
          stored_here_lem overwrite output v e = e ∙ ap (λ (s : Float). cond overwrite s (add binary64 (get_or output r nan) s)) sum_here

  module _ (overwrite : Bool) (output : List Float) where
    abbrev stops : ℕ → Bool
    stops = row_stops offsets columns values input overwrite output

    abbrev stored_here : ℕ → Float
    stored_here = full_at offsets columns values input overwrite output

    abbrev products : List Float
    products = full_product offsets columns values input overwrite output

    pub full_length : length products ≡ rows
    unfolding full_product
    full_length = items_length stored_here rows

    product_at : (r : ℕ) (d : Float) → r < rows → get_or products r d ≡ stored_here r
    unfolding full_product
    product_at r d h = items_at stored_here rows r d h

    -- ---- where the walk stops, and where it goes on
    pub stops_row : (r : ℕ) → passes r ≡ false → stops r ≡ true
    unfolding row_stops
    stops_row r e = rw e

    pub stops_value : (r : ℕ) → is_finite (stored_here r) ≡ false → stops r ≡ true
    unfolding row_stops
    stops_value r e = or_right (not (passes r)) (rw e)

    pub goes_on : (r : ℕ) → passes r ≡ true → is_finite (stored_here r) ≡ true → stops r ≡ false
    unfolding row_stops
    goes_on r e f = rw (e, f)

    -- ---- a walk that has passed the first r rows
    module _ (work₀ : List Float) where
      pub record Walking (r : ℕ) (work : List Float) : Type 0 where
        pub none : NoneBefore stops r
        pub laid : work ≡ take r products ++ drop r work₀

      module _ (r : ℕ) (work : List Float) (w : Walking r work) where
        pub stopped_here : r < rows → stops r ≡ true → Walked offsets columns values input overwrite output work₀ r work
        stopped_here h e = record { stopped = sym (first_here rows stops r h w.none e); laid = w.laid }

        pub stopped_never : r ≤ rows → rows ≤ r → Walked offsets columns values input overwrite output work₀ rows work
        stopped_never room h =
            let e : r ≡ rows = omega arith in
            record { stopped = sym (first_none rows stops (λ i m. w.none i (omega arith))); laid = w.laid ∙ ap (λ (n : ℕ). take n products ++ drop n work₀) e }

        module _ (enough : rows ≤ length work₀) where
          pub walking_next : r < rows → (v : Float) → v ≡ stored_here r → stops r ≡ false → Walking (r + 1) (set work r v)
          walking_next h v e f =
              let l = full_length in
              record {
                none = none_more stops r w.none f;
                laid = written_more nan products work₀ work (set work r v) r v (omega arith) (omega arith) w.laid (e ∙ sym (product_at r nan h)) refl;
              }
