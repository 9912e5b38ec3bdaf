-- SPDX-FileCopyrightText: 2026 The PPVM Authors
-- SPDX-License-Identifier: Apache-2.0

-- Columns row by row: where the offsets rise, a column fails at its place of the table exactly if it is out of place in its row.
-- Assumes nothing.
use mathlib.Core.Path.{◌≡◌, refl, sym, ap, ◌∙◌}
use mathlib.Core.Bool.{Bool, true, false, ◌&&◌, ◌||◌}
use mathlib.Core.List.{List}
use Prim.Native.Nat.{ℕ, zero, suc, ◌+◌, ◌-◌, ◌≤◌, ◌<◌}
use native.Mathlib.Omega.{arith}
use native.Mathlib.Decide.{dec_lt}
use borrow.Author.Tests.{eq-eqb, ne_eqb, lt-ltb, le-ltb, le-leb, lt-leb}
use lib.Dec.{eqb, ltb, leb}
use lib.ListN.{get_or, length}
use Rattle.word.proofs.Sums.{any_none}
use Rattle.word.proofs.CountLaws.{any_one}
use Rattle.lent.specs.Tests.{first_to}
use Rattle.lent.proofs.Firsts.{NoneBefore, first_before, first_passes, first_here, first_none}
use Rattle.matrix_row.specs.Rows.{part_of}
use Rattle.csr.specs.Lent.{row_starts, bad_column}
use Rattle.matrix_row.specs.Walks.{least_at, misplaced, bad_place}
use Rattle.matrix_row.specs.declared.rows.Row.{Row}
use Rattle.matrix_row.proofs.RowLaws.{part_length, part_at}
use Rattle.csr.proofs.OffsetLaws.{Rising, never_falls, offset_inside}

either_way : (a b : Bool) → (a || b) ≡ (b || (a && true))
either_way true true = refl
either_way true false = refl
either_way false true = refl
either_way false false = refl

alone : (a b : Bool) → a ≡ (a || (b && false))
alone true b = refl
alone false true = refl
alone false false = refl

below_next : (c p : ℕ) → ltb c (suc p) ≡ leb c p
below_next c p = go (dec_lt p c)
  where
    go : Dec (p < c) → ltb c (suc p) ≡ leb c p
    go (yes d) = le-ltb c (suc p) d ∙ sym (lt-leb c p d)
    go (no d) = lt-ltb c (suc p) (omega arith) ∙ sym (le-leb c p (omega arith))

module _ (rows : ℕ) (offsets columns : List ℕ) (sized : length offsets ≡ rows + 1) (R : Rising rows (length columns) offsets) where
  abbrev offset : ℕ → ℕ
  offset k = get_or offsets k 0

  abbrev fails : ℕ → Bool
  fails = bad_column rows offsets columns

  -- ---- one row
  module _ (r : ℕ) (h : r < rows) where
    abbrev here : Row
    here = record { start = offset r; end = offset (r + 1) }

    abbrev cs : List ℕ
    cs = part_of here columns

    abbrev wide : ℕ
    wide = offset (r + 1) - offset r

    pub ordered : offset r ≤ offset (r + 1)
    ordered = R.rises r h

    pub within : offset (r + 1) ≤ length columns
    within = offset_inside rows (length columns) offsets R (r + 1) (omega arith)

    starts_first : row_starts offsets (offset r) ≡ true
    unfolding row_starts
    starts_first = any_one (length offsets) (λ i. eqb (offset i) (offset r)) r (omega arith) (eq-eqb (offset r) (offset r) refl)

    starts_not : (e : ℕ) → offset r < e → e < offset (r + 1) → row_starts offsets e ≡ false
    unfolding row_starts
    starts_not e l m = any_none (length offsets) (λ i. eqb (offset i) e) (λ i n. ne_eqb (offset i) e (apart i n (dec_lt r i)))
      where
        apart : (i : ℕ) → i < length offsets → Dec (r < i) → offset i ≡ e → ⊥
        apart i n (yes d) q = omega (arith, never_falls rows (length columns) offsets R (r + 1) i (omega arith) (omega arith))
        apart i n (no d) q = omega (arith, never_falls rows (length columns) offsets R i r (omega arith) (omega arith))

    column_at : (k : ℕ) → k < wide → get_or cs k 0 ≡ get_or columns (offset r + k) 0
    column_at k l = part_at here columns ordered within k 0 l

    pub place_is : (k : ℕ) → k < wide → bad_place rows cs k ≡ fails (offset r + k)
    unfolding bad_place bad_column misplaced least_at
    place_is zero l =
        let z : offset r + 0 ≡ offset r = omega arith in
        let c : ℕ = get_or columns (offset r + 0) 0 in
        rw (column_at 0 l, le-ltb c 0 (omega arith), ap (row_starts offsets) z, starts_first) (alone (leb rows c) (leb c (get_or columns (offset r + 0 - 1) 0)))
    place_is (suc k) l =
        let s : offset r + suc k - 1 ≡ offset r + k = omega arith in
        let c : ℕ = get_or columns (offset r + suc k) 0 in
        rw (column_at (suc k) l, column_at k (omega arith), starts_not (offset r + suc k) (omega arith) (omega arith), ap (λ (i : ℕ). get_or columns i 0) s, below_next c (get_or columns (offset r + k) 0))
        (either_way (leb c (get_or columns (offset r + k) 0)) (leb rows c))

    -- none fails up to place k of this row
    none_in : (k : ℕ) → k ≤ wide → NoneBefore fails (offset r) → NoneBefore (bad_place rows cs) k → NoneBefore fails (offset r + k)
    none_in k l p q e m = go (dec_lt e (offset r))
      where
        go : Dec (e < offset r) → fails e ≡ false
        go (yes d) = p e d
        go (no d) =
            let i : offset r + (e - offset r) ≡ e = omega arith in
            ap fails (sym i) ∙ sym (place_is (e - offset r) (omega arith)) ∙ q (e - offset r) (omega arith)

    module _ (k : ℕ) (p : NoneBefore fails (offset r)) (is : k ≡ first_to (length cs) (bad_place rows cs)) where
      long : length cs ≡ wide
      long = part_length here columns ordered within

      first_is : k ≡ first_to wide (bad_place rows cs)
      first_is = is ∙ ap (λ (n : ℕ). first_to n (bad_place rows cs)) long

      before : NoneBefore (bad_place rows cs) k
      before = rw first_is (first_before wide (bad_place rows cs))

      pub fails_here : k < wide → offset r + k ≡ first_to (length columns) fails
      fails_here l =
          let f = first_passes wide (bad_place rows cs) (rw first_is at l) in
          let w = within in
          sym (first_here (length columns) fails (offset r + k) (omega arith) (none_in k (omega arith) p before) (sym (place_is k l) ∙ ap (bad_place rows cs) first_is ∙ f))

      pub none_fails : wide ≤ k → NoneBefore fails (offset (r + 1))
      none_fails l e m =
          let o = ordered in
          let i : offset r + wide ≡ offset (r + 1) = omega arith in
          none_in wide (omega arith) p (λ j n. before j (omega arith)) e (omega arith)

  -- ---- all rows
  pub none_yet : NoneBefore fails (offset 0)
  none_yet k l = absurd (omega (arith, R.first))

  pub none_at_all : (r : ℕ) → rows ≤ r → r ≤ rows → NoneBefore fails (offset r) → length columns ≡ first_to (length columns) fails
  none_at_all r h l p =
      let e : r ≡ rows = omega arith in
      let o : offset r ≡ length columns = ap (λ (i : ℕ). offset i) e ∙ R.last in
      sym (first_none (length columns) fails (λ k m. p k (omega arith)))
