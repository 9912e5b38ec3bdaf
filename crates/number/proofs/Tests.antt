-- SPDX-FileCopyrightText: 2026 The PPVM Authors
-- SPDX-License-Identifier: Apache-2.0

-- Tests that compute: two that pass together are equal, and a common factor changes no comparison. Assumes nothing.
use mathlib.Core.Path.{◌≡◌, refl, sym, ap, subst}
use mathlib.Core.Logic.{◌⊎◌, inl, inr}
use Prim.Native.Nat.{ℕ, ◌*◌, ◌<◌}
use native.Mathlib.Nat.{le_of_lt, le_of_eq, eq-or-lt_of_le, mul-lt-mul_of_pos_right, lt_of_mul-lt-mul_right, eq_of_mul-eq-mul_right}
use mathlib.Core.Bool.{Bool, true, false, ◌||◌}
use lib.Dec.{T, leb, ltb, eqb, leb→le, le→leb, ltb→lt, lt→ltb, eqb→eq}
use lib.Ieee.Fits.{eq→eqb}

-- ---- tests in general

pub same_test : (a b : Bool) → (T a → T b) → (T b → T a) → a ≡ b
same_test true true p q = refl
same_test true false p q = absurd (p tt)
same_test false true p q = absurd (q tt)
same_test false false p q = refl

pub yes : {b : Bool} → T b → b ≡ true
yes {b = true} t = refl
yes {b = false} t = absurd t

pub no : {b : Bool} → (T b → ⊥) → b ≡ false
no {b = true} f = absurd (f tt)
no {b = false} f = refl

pub passes : {a b : Bool} → a ≡ b → T b → T a
passes e t = subst T (sym e) t

pub or_cases : (a b : Bool) → T (a || b) → T a ⊎ T b
or_cases true b t = inl tt
or_cases false b t = inr t

pub or_l : (a b : Bool) → T a → T (a || b)
or_l true b t = tt
or_l false b t = absurd t

pub or_r : (a b : Bool) → T b → T (a || b)
or_r true b t = tt
or_r false b t = t

-- ---- comparisons of natural numbers

-- at most is less or equal
pub leb_is : (a b : ℕ) → leb a b ≡ (ltb a b || eqb a b)
leb_is a b =
    same_test (leb a b) (ltb a b || eqb a b)
    (λ t. elim (eq-or-lt_of_le (leb→le a b t)) [ inl e ↦ or_r (ltb a b) (eqb a b) (eq→eqb e) | inr l ↦ or_l (ltb a b) (eqb a b) (lt→ltb a b l) ])
    (λ t. elim (or_cases (ltb a b) (eqb a b) t) [ inl l ↦ le→leb a b (le_of_lt (ltb→lt a b l)) | inr e ↦ le→leb a b (le_of_eq (eqb→eq a b e)) ])

-- a factor above zero
module _ (a b c : ℕ) (C : 0 < c) where
  pub ltb_scale : ltb (a * c) (b * c) ≡ ltb a b
  ltb_scale = same_test (ltb (a * c) (b * c)) (ltb a b)
      (λ t. lt→ltb a b (lt_of_mul-lt-mul_right c (ltb→lt (a * c) (b * c) t)))
      (λ t. lt→ltb (a * c) (b * c) (mul-lt-mul_of_pos_right (ltb→lt a b t) C))

  pub eqb_scale : eqb (a * c) (b * c) ≡ eqb a b
  eqb_scale = same_test (eqb (a * c) (b * c)) (eqb a b)
      (λ t. eq→eqb (eq_of_mul-eq-mul_right c C a b (eqb→eq (a * c) (b * c) t)))
      (λ t. eq→eqb (ap (λ (x : ℕ). x * c) (eqb→eq a b t)))
