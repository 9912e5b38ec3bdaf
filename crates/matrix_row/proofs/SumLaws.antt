-- SPDX-FileCopyrightText: 2026 The PPVM Authors
-- SPDX-License-Identifier: Apache-2.0

-- The walk through a row: one entry after another, it stops where it should, and its sum is that of the entries passed. Where their
-- values are finite, skipping the zeros makes no difference. Assumes nothing.
use Rattle.std.proofs.Common.{◌≡◌, ℕ, zero, suc, ◌+◌, ◌<◌, ◌≤◌, Bool, true, false, cond, T, List, [], ◌∷◌, ◌++◌, length, get_or, take, sym, refl, ap, ◌∙◌, arith, take_all, take-suc}
use lib.Ieee.{Float, nan, binary64, add, mul, eq, fits, of_bits}
use lib.Ieee.Fits.{add-fits, mul-fits}
use lib.Ieee.Bits.{of_bits-fits}
use Rattle.number.specs.Floats.{float0, is_finite}
use Rattle.number.proofs.ZeroLaws.{is_minus_zero, add_not_minus, adds_nothing}
use Rattle.lent.proofs.Firsts.{NoneBefore, none_start, none_more, first_here, first_none}
use Rattle.matrix_row.specs.Rows.{RowEntry, beside, add_entry, add_entries, row_sum}
use Rattle.matrix_row.specs.Walks.{misplaced, bad_place, add_product, add_products, full_sum, RowWalked}
use Rattle.matrix_row.proofs.FiniteLaws.{mul_finite, add_finite}
use Rattle.matrix_row.proofs.PlaceLaws.{Placed, placed_start, place_is, placed_next}

-- ---- columns beside their values
abbrev pub entry_at : List ℕ → List Float → ℕ → RowEntry
entry_at cs vs k = record { column = get_or cs k 0; value = get_or vs k nan }

pub beside_length : (cs : List ℕ) (vs : List Float) → length vs ≡ length cs → length (beside cs vs) ≡ length cs
unfolding beside
beside_length [] vs e = refl
beside_length (c ∷ cs) [] e = absurd (omega arith)
beside_length (c ∷ cs) (v ∷ vs) e = ap suc (beside_length cs vs (omega arith))

pub beside_at : (cs : List ℕ) (vs : List Float) (k : ℕ) (d : RowEntry) → length vs ≡ length cs → k < length cs → get_or (beside cs vs) k d ≡ entry_at cs vs k
unfolding beside
beside_at [] vs k d e h = absurd (omega arith)
beside_at (c ∷ cs) [] k d e h = absurd (omega arith)
beside_at (c ∷ cs) (v ∷ vs) zero d e h = refl
beside_at (c ∷ cs) (v ∷ vs) (suc k) d e h = beside_at cs vs k d (omega arith) (omega arith)

-- ---- one more entry
add_last : (input : List Float) (s : Float) (es : List RowEntry) (e : RowEntry) → add_products input s (es ++ (e ∷ [])) ≡ add_product input (add_products input s es) e
unfolding add_products
add_last input s [] e = refl
add_last input s (x ∷ es) e = add_last input (add_product input s x) es e

module _ (input : List Float) (cs : List ℕ) (vs : List Float) where
  abbrev bad : ℕ → Bool
  bad = bad_place (length input) cs

  -- ---- a walk that has passed the first k entries
  pub record Passing (sum : Float) (least k : ℕ) : Type 0 where
    pub placed : Placed (length input) cs least k
    pub none : NoneBefore bad k
    pub summed : sum ≡ full_sum input (take k (beside cs vs))

  module _ (same : length vs ≡ length cs) where
    sum_next : (k : ℕ) → k < length cs → full_sum input (take (k + 1) (beside cs vs)) ≡ add_product input (full_sum input (take k (beside cs vs))) (entry_at cs vs k)
    sum_next k h =
        let e : k + 1 ≡ suc k = omega arith in
        let l = beside_length cs vs same in
        let d : RowEntry = entry_at cs vs k in
        ap (λ (n : ℕ). full_sum input (take n (beside cs vs))) e
        ∙ ap (full_sum input) (take-suc (beside cs vs) k d (omega arith) ∙ ap (λ (x : RowEntry). take k (beside cs vs) ++ (x ∷ [])) (beside_at cs vs k d same h))
        ∙ add_last input float0 (take k (beside cs vs)) (entry_at cs vs k)

    pub passing_start : Passing float0 0 0
    unfolding add_products
    passing_start = record { placed = placed_start (length input) cs; none = none_start bad; summed = refl }

    pub all_passed : (sum : Float) (least k : ℕ) → Passing sum least k → length cs ≤ k → RowWalked input cs vs (record { passed = length cs; sum = sum })
    all_passed sum least k p h =
        let l = beside_length cs vs same in
        record {
          stopped = sym (first_none (length cs) bad (λ i m. p.none i (omega arith)));
          summed = λ _. p.summed ∙ ap (full_sum input) (take_all k (beside cs vs) (omega arith));
        }

    module _ (sum : Float) (least k column : ℕ) (p : Passing sum least k) (h : k < length cs) (is : column ≡ get_or cs k 0) {found : Bool} (tested : found ≡ misplaced least (length input) column) where
      abbrev x : Float
      x = get_or input column nan

      found_is : found ≡ bad k
      found_is = place_is (length input) cs least k column p.placed is tested

      pub stops_misplaced : found ≡ true → RowWalked input cs vs (record { passed = k; sum = sum })
      stops_misplaced e = record { stopped = sym (first_here (length cs) bad k h p.none (sym found_is ∙ e)); summed = λ m. absurd (omega arith) }

      pub passing_more : found ≡ false → Passing (add binary64 sum (mul binary64 (get_or vs k nan) x)) (column + 1) (k + 1)
      unfolding add_product
      passing_more good = record {
        placed = placed_next (length input) cs least k column p.placed is tested good;
        none = none_more bad k p.none (sym found_is ∙ good);
        summed = sym (sum_next k h ∙ ap (λ (s : Float). add_product input s (entry_at cs vs k)) (sym p.summed) ∙ ap (λ (c : ℕ). add binary64 sum (mul binary64 (get_or vs k nan) (get_or input c nan))) (sym is));
      }

module _ (input : List Float) where
  -- ---- a sum is finite only if all values are
  start_finite : (s : Float) (es : List RowEntry) → is_finite (add_products input s es) ≡ true → is_finite s ≡ true
  unfolding add_products add_product
  start_finite s [] h = h
  start_finite s (e ∷ es) h = (add_finite s (mul binary64 e.value (get_or input e.column nan)) (start_finite (add_product input s e) es h)).0

  pub values_finite : (s : Float) (cs : List ℕ) (vs : List Float) → length vs ≡ length cs → is_finite (add_products input s (beside cs vs)) ≡ true → (k : ℕ) → k < length cs → is_finite (get_or vs k nan) ≡ true
  unfolding beside add_products add_product
  values_finite s [] vs l h k m = absurd (omega arith)
  values_finite s (c ∷ cs) [] l h k m = absurd (omega arith)
  values_finite s (c ∷ cs) (v ∷ vs) l h zero m =
      let x : Float = get_or input c nan in
      mul_finite v x (add_finite s (mul binary64 v x) (start_finite (add_product input s (record { column = c; value = v })) (beside cs vs) h)).1
  values_finite s (c ∷ cs) (v ∷ vs) l h (suc k) m = values_finite (add_product input s (record { column = c; value = v })) cs vs (omega arith) h k (omega arith)

  -- ---- where all values are finite, the zeros may be skipped
  same_sum : (s : Float) (cs : List ℕ) (vs : List Float) → length vs ≡ length cs → T (fits binary64 s) → is_minus_zero s ≡ false → ((k : ℕ) → k < length cs → is_finite (get_or vs k nan) ≡ true) → add_products input s (beside cs vs) ≡ add_entries input s (beside cs vs)
  unfolding beside add_products add_product add_entries add_entry
  same_sum s [] vs l F m f = refl
  same_sum s (c ∷ cs) [] l F m f = absurd (omega arith)
  same_sum s (c ∷ cs) (v ∷ vs) l F m f =
      same_sum more cs vs (omega arith) (add-fits binary64 s (mul binary64 v x)) (add_not_minus s (mul binary64 v x) F (mul-fits binary64 v x) m) (λ k h. f (suc k) (omega arith))
      ∙ ap (λ (t : Float). add_entries input t (beside cs vs)) (one (eq x float0) refl)
    where
      x : Float
      x = get_or input c nan

      more : Float
      more = add binary64 s (mul binary64 v x)

      one : (b : Bool) → eq x float0 ≡ b → more ≡ cond (eq x float0) s more
      one true e = adds_nothing s v x F m (f 0 (omega arith)) e ∙ sym (ap (λ (b : Bool). cond b s more) e)
      one false e = sym (ap (λ (b : Bool). cond b s more) e)

  pub full_sum_lem : (cs : List ℕ) (vs : List Float) → length vs ≡ length cs → ((k : ℕ) → k < length cs → is_finite (get_or vs k nan) ≡ true) → full_sum input (beside cs vs) ≡ row_sum input (beside cs vs)
  unfolding of_bits
  full_sum_lem cs vs l f = same_sum float0 cs vs l (of_bits-fits binary64 0) refl f
