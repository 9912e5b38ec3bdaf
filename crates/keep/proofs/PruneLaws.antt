-- SPDX-FileCopyrightText: 2026 The PPVM Authors
-- SPDX-License-Identifier: Apache-2.0

-- The flags of a prune, entry by entry, and that a lower tolerance keeps at least the same. Assumes nothing.
use mathlib.Core.Path.{◌≡◌, refl, ap, sym, ◌∙◌}
use mathlib.Core.Bool.{Bool, true, false, not, cond}
use mathlib.Core.List.{List, [], ◌∷◌}
use Prim.Native.Nat.{ℕ, zero, suc, ◌≤◌, ◌<◌}
use native.Mathlib.Omega.{arith}
use lib.Dec.{T, eqb}
use mir.Val.{bool_byte}
use lib.Ieee.{Float, nan, binary64, le, fits, is_nan}
use lib.ListN.{length, get_or, take}
use lib.Seq.{length-take-le, get_or-take}
use borrow.Author.Tests.{leb-true, le-leb}
use Rattle.number.specs.Floats.{magnitude}
use Rattle.number.specs.Key.{nonneg, key}
use Rattle.number.proofs.KeyLaws.{le_key, magnitude_nonneg, magnitude_fits}
use Rattle.keep.specs.Pruned.{large_flag, large_flags}
use Rattle.keep.proofs.FlagLaws.{Kept, test_number}

module _ (tol : Float) where
  pub large_length : (xs : List Float) (ks : List ℕ) → length (large_flags tol xs ks) ≡ length ks
  unfolding large_flags
  large_length [] ks = refl
  large_length (x ∷ xs) [] = refl
  large_length (x ∷ xs) (k ∷ ks) = ap suc (large_length xs ks)

  large_at : (xs : List Float) (ks : List ℕ) (i : ℕ) → i < length xs → i < length ks → get_or (large_flags tol xs ks) i 0 ≡ large_flag tol (get_or xs i nan) (get_or ks i 0)
  unfolding large_flags
  large_at [] ks i h g = absurd (omega arith)
  large_at (x ∷ xs) [] i h g = absurd (omega arith)
  large_at (x ∷ xs) (k ∷ ks) zero h g = refl
  large_at (x ∷ xs) (k ∷ ks) (suc i) h g = large_at xs ks i (omega arith) (omega arith)

  -- the same of the first len numbers
  pub large_first : (xs : List Float) (ks : List ℕ) (len i : ℕ) → i < len → len ≤ length xs → len ≤ length ks
      → get_or (large_flags tol (take len xs) ks) i 0 ≡ large_flag tol (get_or xs i nan) (get_or ks i 0)
  large_first xs ks len i h g k =
      large_at (take len xs) ks i (omega (arith, h, length-take-le len xs g)) (omega arith)
      ∙ ap (λ (x : Float). large_flag tol x (get_or ks i 0)) (get_or-take len xs i nan h)

-- the flag of a number whose magnitude is size
pub size_flag : (tol x size : Float) → size ≡ magnitude x → bool_byte (le tol size) ≡ large_flag tol x 0
unfolding large_flag
size_flag tol x size e = test_number (le tol size) ∙ rw e

-- a number of the code that is no NaN
pub record Number (x : Float) : Type 0 where
  pub fits_f64 : T (fits binary64 x)
  pub no_nan : T (not (is_nan x))

-- two tolerances that are not below 0, the first not above the second
module _ (tol tol' : Float) (F : T (fits binary64 tol)) (G : T (fits binary64 tol')) (h : T (nonneg tol)) (k : T (nonneg tol')) (lower : le tol tol' ≡ true) where
  large_more : (x : Float) → Number x → le tol' (magnitude x) ≡ true → le tol (magnitude x) ≡ true
  large_more x n e =
      let f = magnitude_fits binary64 x n.fits_f64 in
      let g = magnitude_nonneg x n.no_nan in
      let a = leb-true (key binary64 tol) (key binary64 tol') (sym (le_key binary64 tol tol' F G h k) ∙ lower) in
      let b = leb-true (key binary64 tol') (key binary64 (magnitude x)) (sym (le_key binary64 tol' (magnitude x) G f k g) ∙ e) in
      le_key binary64 tol (magnitude x) F f h g ∙ le-leb (key binary64 tol) (key binary64 (magnitude x)) (omega (arith, a, b))

  flag_more : (x : Float) (f : ℕ) → Number x → (large_flag tol' x f ≡ 0 → ⊥) → large_flag tol x f ≡ 0 → ⊥
  unfolding large_flag
  flag_more x f n = go (eqb f 0) (le tol' (magnitude x)) (le tol (magnitude x)) (large_more x n)
    where
      go : (a b c : Bool) → (b ≡ true → c ≡ true) → (◌≡◌ {A = ℕ} (cond a (cond b 1 0) 1) 0 → ⊥) → ◌≡◌ {A = ℕ} (cond a (cond c 1 0) 1) 0 → ⊥
      go false b c m x y = omega arith
      go true false c m x y = x refl
      go true true true m x y = omega arith
      go true true false m x y = x (ap (λ (d : Bool). cond {A = ℕ} d 1 0) (sym (m refl)) ∙ y)

  -- the lower tolerance keeps at least the same
  pub prune_more : (xs : List Float) (ks : List ℕ) → ((i : ℕ) → i < length xs → Number (get_or xs i nan)) → (p : ℕ) → Kept (large_flags tol' xs ks) p → Kept (large_flags tol xs ks) p
  unfolding large_flags
  prune_more [] ks n p l = l
  prune_more (x ∷ xs) [] n p l = l
  prune_more (x ∷ xs) (f ∷ ks) n zero l = flag_more x f (n 0 (omega arith)) l
  prune_more (x ∷ xs) (f ∷ ks) n (suc p) l = prune_more xs ks (λ i m. n (suc i) (omega arith)) p l
