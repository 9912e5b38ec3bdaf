-- SPDX-FileCopyrightText: 2026 The PPVM Authors
-- SPDX-License-Identifier: Apache-2.0

-- f64 that are whole numbers: sums, differences and products within 2 ^ 53 are those of the whole numbers, and so are magnitudes
-- and the test for 0. Assumes nothing.
use mathlib.Core.Path.{◌≡◌, refl, sym, ◌∙◌, subst}
use Prim.Native.Nat.{zero, suc, ◌^◌, ◌≤◌}
use mathlib.Core.Bool.{Bool, true, false, cond}
use lib.IntN.{ℤ, pos, negsuc, nat_abs}
use lib.Dec.{leb-suc-zero, eqb-suc-zero}
use lib.Ieee
use lib.Ieee.{Float, fin, binary64, add, sub, mul, eq, of_bits}
use Rattle.number.specs.Whole.{◌⊞◌, neg, ◌⊠◌, is_nought}
use Rattle.number.specs.Floats.{float0, float1, float2, magnitude}
use Rattle.number.specs.Exact.{signed, eq_z, Is}
use Rattle.number.proofs.WholeFloats.{whole_neg, whole_add, whole_sub, whole_mul, is_lt, is_eq}

-- ---- the constants

-- the two zeros
pub is_zero : (s : Bool) → Is (fin s 0 (pos 0)) (pos 0)
is_zero s = record { sign = s; size = 0; value = (refl, refl); is = go s }
  where
    go : (s : Bool) → signed s 0 ≡ pos 0
    go true = refl
    go false = refl

pub is_nought_lem : Is float0 (pos 0)
unfolding of_bits
is_nought_lem = is_zero false

pub is_unit : Is float1 (pos 1)
unfolding of_bits
is_unit = record { sign = false; size = 1; value = (refl, refl); is = refl }

pub is_two : Is float2 (pos 2)
unfolding of_bits
is_two = record { sign = false; size = 2; value = (refl, refl); is = refl }

-- ---- the operations

pub is_neg : {x : Float} {z : ℤ} → Is x z → Is (Ieee.neg x) (neg z)
unfolding neg
is_neg h = whole_neg h

module _ {x y : Float} {z w : ℤ} (h : Is x z) (k : Is y w) where
  pub is_add : nat_abs (z ⊞ w) ≤ 2 ^ 53 → Is (add binary64 x y) (z ⊞ w)
  unfolding ◌⊞◌
  is_add b = whole_add binary64 h k b

  pub is_sub : nat_abs (z ⊞ neg w) ≤ 2 ^ 53 → Is (sub binary64 x y) (z ⊞ neg w)
  unfolding ◌⊞◌ neg
  is_sub b = whole_sub binary64 h k b

  pub is_mul : nat_abs (z ⊠ w) ≤ 2 ^ 53 → Is (mul binary64 x y) (z ⊠ w)
  unfolding ◌⊠◌
  is_mul b = whole_mul binary64 h k b

-- ---- the test for 0
pub zero_is : {x : Float} {z : ℤ} → Is x z → eq x float0 ≡ is_nought z
unfolding is_nought
zero_is {z} h = is_eq h is_nought_lem ∙ go z
  where
    go : (z : ℤ) → eq_z z (pos 0) ≡ is_nought z
    go (pos zero) = refl
    go (pos (suc n)) = eqb-suc-zero n
    go (negsuc n) = refl

-- ---- magnitudes

pub is_magnitude : {x : Float} {z : ℤ} → Is x z → Is (magnitude x) (pos (nat_abs z))
unfolding magnitude neg
is_magnitude {x} {z = pos n} h = subst (λ (b : Bool). Is (cond b (Ieee.neg x) x) (pos n)) (sym (is_lt h is_nought_lem ∙ leb-suc-zero n)) h
is_magnitude {x} {z = negsuc n} h = subst (λ (b : Bool). Is (cond b (Ieee.neg x) x) (pos (suc n))) (sym (is_lt h is_nought_lem)) (is_neg h)
