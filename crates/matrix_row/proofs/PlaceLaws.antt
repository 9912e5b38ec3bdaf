-- SPDX-FileCopyrightText: 2026 The PPVM Authors
-- SPDX-License-Identifier: Apache-2.0

-- The columns of a row, one after another: the least that may come next, and what is known of one that is in its place.
-- Assumes nothing.
use Rattle.std.proofs.Common.{◌≡◌, ℕ, suc, ◌+◌, ◌-◌, ◌%◌, ◌^◌, ◌<◌, ◌≤◌, Bool, true, false, ◌||◌, ltb, leb, List, get_or, sym, refl, ap, ◌∙◌, arith, ltb-false, le-ltb, lt-ltb, le-leb, leb-false}
use mathlib.Core.Bool.{false≢true}
use native.Mathlib.Decide.{dec_lt}
use borrow.Author.Tests.{lt-leb}
use Rattle.matrix_row.specs.Walks.{least_at, misplaced, bad_place}

pub least_next : (cs : List ℕ) (k : ℕ) → get_or cs k 0 + 1 ≡ least_at cs (k + 1)
unfolding least_at
least_next cs k =
    let e : k + 1 ≡ suc k = omega arith in
    let f : get_or cs k 0 + 1 ≡ suc (get_or cs k 0) = omega arith in
    f ∙ sym (ap (least_at cs) e)

pub in_place : (least rows column : ℕ) → misplaced least rows column ≡ false → (least ≤ column) × (column < rows)
unfolding misplaced
in_place least rows column e = go (ltb column least) refl (leb rows column) refl e
  where
    go : (a : Bool) → ltb column least ≡ a → (b : Bool) → leb rows column ≡ b → (a || b) ≡ false → (least ≤ column) × (column < rows)
    go true ea b eb h = absurd (false≢true (sym h))
    go false ea true eb h = absurd (false≢true (sym h))
    go false ea false eb h = (ltb-false column least ea, leb-false rows column eb)

-- one test for both: what is below the least wraps around
pub one_test : (column least rows step : ℕ) → least ≤ rows → rows < 2 ^ 64 → step < 2 ^ 64 → (step + least) % 2 ^ 64 ≡ column → leb (rows - least) step ≡ misplaced least rows column
unfolding misplaced
one_test column least rows step l m n e = go (dec_lt column least) (dec_lt column rows)
  where
    go : Dec (column < least) → Dec (column < rows) → leb (rows - least) step ≡ (ltb column least || leb rows column)
    go (yes a) b = rw (lt-ltb column least a) (le-leb (rows - least) step (omega arith))
    go (no a) (yes b) = rw (le-ltb column least (omega arith), lt-leb rows column b) (lt-leb (rows - least) step (omega arith))
    go (no a) (no b) = rw (le-ltb column least (omega arith), le-leb rows column (omega arith)) (le-leb (rows - least) step (omega arith))

-- ---- a walk that has passed the first k columns
pub record Placed (rows : ℕ) (cs : List ℕ) (least k : ℕ) : Type 0 where
  pub next : least ≡ least_at cs k
  pub low : least ≤ rows

pub placed_start : (rows : ℕ) (cs : List ℕ) → Placed rows cs 0 0
unfolding least_at
placed_start rows cs = record { next = refl; low = omega arith }

module _ (rows : ℕ) (cs : List ℕ) (least k column : ℕ) (p : Placed rows cs least k) (is : column ≡ get_or cs k 0) where
  pub place_is : {bad : Bool} → bad ≡ misplaced least rows column → bad ≡ bad_place rows cs k
  unfolding bad_place
  place_is e = rw (sym p.next, sym is) e

  pub placed_next : {bad : Bool} → bad ≡ misplaced least rows column → bad ≡ false → Placed rows cs (column + 1) (k + 1)
  placed_next e f =
      let h = in_place least rows column (sym e ∙ f) in
      record { next = ap (λ (n : ℕ). n + 1) is ∙ least_next cs k; low = omega (arith, h.1) }
