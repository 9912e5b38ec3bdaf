-- SPDX-FileCopyrightText: 2026 The PPVM Authors
-- SPDX-License-Identifier: Apache-2.0

-- The walk against the tests: where no row stops it, all tests pass and all that is to be stored is finite; where all tests pass, a row
-- stops it exactly if what is to be stored there is not finite. Assumes nothing.
use mathlib.Core.Path.{◌≡◌, refl, sym, ap, ◌∙◌}
use mathlib.Core.Bool.{Bool, true, false, not, ◌&&◌, ◌||◌, cond, false≢true}
use mathlib.Core.List.{List, [], ◌∷◌, ◌++◌, map}
use Prim.Native.Nat.{ℕ, zero, suc, ◌+◌, ◌-◌, ◌≤◌, ◌<◌}
use native.Mathlib.Omega.{arith}
use borrow.Author.Tests.{not-false, leb-true, le-leb}
use lib.Dec.{leb}
use lib.Ieee.{Float, nan, binary64, add}
use lib.ListN.{get_or, length, drop, replicate}
use lib.Seq.{ext_get_or}
use Rattle.number.specs.Floats.{float0, is_finite}
use Rattle.lent.specs.Tests.{first_to}
use Rattle.lent.proofs.Firsts.{NoneBefore, first_inside, first_before, first_none, first_cong}
use Rattle.lent.specs.Numbers.{not_finite}
use Rattle.word.specs.Count.{up_to}
use Rattle.word.proofs.CountLaws.{items_length, items_at}
use Rattle.matrix_row.specs.Rows.{part_of, beside, row_entries}
use Rattle.csr.specs.Lent.{bad_column}
use Rattle.csr.specs.Products.{stored_at, product}
use Rattle.csr.specs.Walks.{not_clear, Ready, row_passes, full_at, full_product, row_stops}
use Rattle.matrix_row.specs.Walks.{bad_place, full_sum}
use Rattle.matrix_row.specs.declared.rows.Row.{Row}
use Rattle.matrix_row.proofs.RowLaws.{part_length, part_at}
use Rattle.csr.proofs.NumberLaws.{clear_is}
use Rattle.matrix_row.proofs.FiniteLaws.{add_finite}
use Rattle.matrix_row.proofs.SumLaws.{values_finite, full_sum_lem}
use Rattle.csr.proofs.OffsetLaws.{Rising, rising, none_bad, offset_inside, by_rows}
use Rattle.csr.proofs.ColumnLaws.{place_is}
use Rattle.csr.proofs.CheckLaws.{Sound}
use Rattle.csr.proofs.WalkLaws.{columns_here, values_here, passes_is}

-- ---- tests taken apart
two_hold : (a b : Bool) → (not a || not b) ≡ false → (a ≡ true) × (b ≡ true)
two_hold true true e = (refl, refl)
two_hold true false e = absurd (false≢true (sym e))
two_hold false b e = absurd (false≢true (sym e))

both_hold : (a b d : Bool) → ((a && b) && d) ≡ true → (a ≡ true) × (b ≡ true)
both_hold true true d e = (refl, refl)
both_hold true false d e = absurd (false≢true e)
both_hold false b d e = absurd (false≢true e)

neither_holds : (a b : Bool) → (a || b) ≡ false → (a ≡ false) × (b ≡ false)
neither_holds true b e = absurd (false≢true (sym e))
neither_holds false b e = (refl, e)

-- a search that came to its end
pub all_first : (n : ℕ) (f : ℕ → Bool) {x : ℕ} → x ≡ first_to n f → n ≤ x → first_to n f ≡ n
all_first n f e h = let i = first_inside n f in omega arith

-- a part that was zero is made so again
pub restored : {A : Type 0} (z d : A) (l : List A) (n : ℕ) → n ≤ length l → ((k : ℕ) → k < n → get_or l k d ≡ z) → replicate n z ++ drop n l ≡ l
restored z d l zero h f = refl
restored z d [] (suc n) h f = absurd (omega arith)
restored {A} z d (x ∷ l) (suc n) h f =
    ap (λ (y : A). y ∷ (replicate n z ++ drop n l)) (sym (f 0 (omega arith))) ∙ ap (λ (t : List A). x ∷ t) (restored z d l n (omega arith) (λ k m. f (suc k) (omega arith)))

pub product_length : (rows : ℕ) (offsets columns : List ℕ) (values input : List Float) (overwrite : Bool) (output : List Float) → length (product rows offsets columns values input overwrite output) ≡ rows
unfolding product
product_length rows offsets columns values input overwrite output = items_length (stored_at rows offsets columns values input overwrite output) rows

module _ (offsets columns : List ℕ) (values input : List Float) (overwrite : Bool) (output : List Float) (sized : length offsets ≡ length input + 1) (same : length values ≡ length columns) where
  abbrev rows : ℕ
  rows = length input

  abbrev offset : ℕ → ℕ
  offset k = get_or offsets k 0

  abbrev stops : ℕ → Bool
  stops = row_stops offsets columns values input overwrite output

  abbrev full : ℕ → Float
  full = full_at offsets columns values input overwrite output

  abbrev stored : ℕ → Float
  stored = stored_at rows offsets columns values input overwrite output

  abbrev products : List Float
  products = product rows offsets columns values input overwrite output

  abbrev here : ℕ → Row
  here r = record { start = offset r; end = offset (r + 1) }

  -- ---- a row that does not stop the walk
  record Clean (r : ℕ) : Type 0 where
    pub ordered : offset r ≤ offset (r + 1)
    pub within : offset (r + 1) ≤ length columns
    pub passed : NoneBefore (bad_place rows (part_of (here r) columns)) (offset (r + 1) - offset r)
    pub finite : is_finite (full r) ≡ true

  clean : (r : ℕ) → r < rows → stops r ≡ false → Clean r
  unfolding row_stops row_passes
  clean r h e =
      let t = two_hold (row_passes offsets columns values input r) (is_finite (full r)) e in
      let b = both_hold (leb (offset r) (offset (r + 1))) (leb (offset (r + 1)) (length columns)) _ t.0 in
      let o = leb-true (offset r) (offset (r + 1)) b.0 in
      let w = leb-true (offset (r + 1)) (length columns) b.1 in
      let p = sym (passes_is offsets columns values input r (omega arith) o w) ∙ t.0 in
      let f = leb-true (offset (r + 1) - offset r) _ p in
      record {
        ordered = o;
        within = w;
        passed = λ k m. first_before (offset (r + 1) - offset r) (bad_place rows (part_of (here r) columns)) k (omega arith);
        finite = t.1;
      }

  module _ (r : ℕ) (h : r < rows) (c : Clean r) where
    abbrev cs : List ℕ
    cs = part_of (here r) columns

    abbrev vs : List Float
    vs = part_of (here r) values

    sum_finite : is_finite (full_sum input (beside cs vs)) ≡ true
    unfolding full_at row_entries
    sum_finite =
        let e = columns_here offsets columns values input r (omega arith) c.ordered c.within in
        let f = values_here offsets columns values input r (omega arith) c.ordered c.within in
        rw (e, f) at (go overwrite c.finite)
      where
        go : (b : Bool) → is_finite (cond b (full_sum input (row_entries offsets columns values r)) (add binary64 (get_or output r nan) (full_sum input (row_entries offsets columns values r)))) ≡ true
            → is_finite (full_sum input (row_entries offsets columns values r)) ≡ true
        go true g = g
        go false g = (add_finite (get_or output r nan) (full_sum input (row_entries offsets columns values r)) g).1

    value_finite : (k : ℕ) → k < offset (r + 1) - offset r → is_finite (get_or vs k nan) ≡ true
    value_finite k m =
        let lc = part_length (here r) columns c.ordered c.within in
        let lv = part_length (here r) values c.ordered (omega (arith, c.within)) in
        values_finite input float0 cs vs (lv ∙ sym lc) sum_finite k (omega arith)

    value_clean : (k : ℕ) → k < offset (r + 1) - offset r → not_finite values (offset r + k) ≡ false
    unfolding not_finite
    value_clean k m =
        let i : offset (r + 1) ≤ length values = omega (arith, c.within) in
        ap not (sym (ap (λ (x : Float). is_finite x) (part_at (here r) values c.ordered i k nan m)) ∙ value_finite k m)

  -- ---- all tests pass
  module _ (s : Sound rows offsets columns values input overwrite output) where
    risen : Rising rows (length columns) offsets
    risen = rising rows (length columns) offsets s.offsets_sound

    module _ (r : ℕ) (h : r < rows) where
      is_inside : offset (r + 1) ≤ length columns
      is_inside = offset_inside rows (length columns) offsets risen (r + 1) (omega arith)

      none_bad_place : NoneBefore (bad_place rows (part_of (here r) columns)) (offset (r + 1) - offset r)
      none_bad_place k m =
          let w = is_inside in
          let o = risen.rises r h in
          place_is rows offsets columns sized risen r h k m ∙ s.columns_sound (offset r + k) (omega arith)

      sound_value : (k : ℕ) → k < offset (r + 1) - offset r → is_finite (get_or (part_of (here r) values) k nan) ≡ true
      unfolding not_finite
      sound_value k m =
          let w = is_inside in
          let o = risen.rises r h in
          ap (λ (x : Float). is_finite x) (part_at (here r) values o (omega arith) k nan m) ∙ not-false _ (s.values_sound (offset r + k) (omega arith))

      -- nothing is skipped, and the sum is the same
      full_is : full r ≡ stored r
      unfolding full_at stored_at row_entries
      full_is =
          let w = is_inside in
          let o = risen.rises r h in
          let lc = part_length (here r) columns o w in
          let lv = part_length (here r) values o (omega arith) in
          let e = columns_here offsets columns values input r (omega arith) o w in
          let f = values_here offsets columns values input r (omega arith) o w in
          rw (e, f, full_sum_lem input (part_of (here r) columns) (part_of (here r) values) (lv ∙ sym lc) (λ k m. sound_value k (omega arith)))

      stored_at_lem : get_or products r nan ≡ stored r
      unfolding product
      stored_at_lem = items_at stored rows r nan h

      stops_is : stops r ≡ not_finite products r
      unfolding row_stops not_finite
      stops_is =
          let w = is_inside in
          let o = risen.rises r h in
          let n = offset (r + 1) - offset r in
          let e = first_none n (bad_place rows (part_of (here r) columns)) none_bad_place in
          let p = passes_is offsets columns values input r (omega arith) o w ∙ le-leb n _ (omega arith) in
          rw (p, full_is, stored_at_lem)

    pub stops_first : first_to rows stops ≡ first_to rows (not_finite products)
    stops_first = first_cong rows stops (not_finite products) stops_is

    pub full_product_lem : full_product offsets columns values input overwrite output ≡ products
    unfolding full_product product
    full_product_lem = ext_get_or nan _ _ (items_length full rows ∙ sym (items_length stored rows)) (λ r m. at r (omega (arith, items_length full rows)))
      where
        at : (r : ℕ) → r < rows → get_or (map full (up_to 0 rows)) r nan ≡ get_or (map stored (up_to 0 rows)) r nan
        at r h = items_at full rows r nan h ∙ full_is r h ∙ sym (items_at stored rows r nan h)

  -- ---- no row stops the walk, and the short tables are as it asks
  module _ (work : List Float) (ready : Ready input overwrite output work) where
    none_fails : (f : ℕ → Bool) → first_to rows f ≡ rows → NoneBefore f rows
    none_fails f e k m = first_before rows f k (omega arith)

    module _ (none : NoneBefore stops rows) (first : offset 0 ≡ 0) (last : offset rows ≡ length columns) where
      each : (r : ℕ) → r < rows → Clean r
      each r h = clean r h (none r h)

      rise : Rising rows (length columns) offsets
      rise = record { first = first; rises = λ r h. (each r h).ordered; last = last }

      pub passed_sound : Sound rows offsets columns values input overwrite output
      passed_sound = record {
        offsets_sound = none_bad rows (length columns) offsets rise;
        columns_sound = by_rows rows (length columns) offsets rise (bad_column rows offsets columns) (λ r k h m. sym (place_is rows offsets columns sized rise r h k m) ∙ (each r h).passed k m);
        values_sound = λ k m. by_rows rows (length columns) offsets rise (not_finite values) (λ r i h n. value_clean r h (each r h) i n) k (omega arith);
        input_sound = none_fails (not_finite input) ready.finite;
        output_sound = λ e. none_fails (not_finite output) (ready.added e);
      }

      pub passed_finite : NoneBefore (not_finite products) rows
      unfolding not_finite
      passed_finite r h = ap not (ap (λ (x : Float). is_finite x) (stored_at_lem passed_sound r h ∙ sym (full_is passed_sound r h)) ∙ (each r h).finite)

    -- what is made zero again was zero
    pub zero_again : rows ≤ length work → (d : ℕ) → d ≤ rows → replicate d float0 ++ drop d work ≡ work
    zero_again m d l = restored float0 nan work d (omega arith) (λ k n. clear_is (get_or work k nan) (not-false _ (none_fails (not_clear work) ready.clear k (omega arith))))
