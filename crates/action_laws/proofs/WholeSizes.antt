-- SPDX-FileCopyrightText: 2026 The PPVM Authors
-- SPDX-License-Identifier: Apache-2.0

-- The size of a Gaussian integer, the sum of its parts' magnitudes: a sum's is at most the sum, a product's at most the product
-- of the sizes, and arithmetic over f64 is exact while sizes stay within 2 ^ 53. Assumes nothing.
use mathlib.Core.Path.{◌≡◌, refl, ap, ap₂}
use Prim.Native.Nat.{ℕ, zero, suc, ◌+◌, ◌*◌, ◌^◌, ◌≤◌}
use native.Mathlib.Nat.{le_trans, add-mul, mul-add, mul-le-mul}
use native.Mathlib.Omega.{arith}
use lib.Dec.{lit≤}
use lib.IntN.{ℤ, nat_abs}
use lib.Ieee.{Float}
use Rattle.number.specs.Numbers.{Cx, add_c, neg_c, mul_c, conj_c, zero_c, real_c, unit_c}
use Rattle.number.specs.Whole.{◌⊞◌, neg, ◌⊠◌, whole}
use Rattle.number.specs.Floats.{floats}
use Rattle.number.specs.Exact.{Is, IsG, Within}
use Rattle.number.proofs.Integers.{abs_neg, abs_add, abs_mul}
use Rattle.number.proofs.ExactLaws.{is_nought_lem, is_mul}
use Rattle.number.proofs.ExactComplex.{is_sum, is_product, is_negative, is_conjugate, is_real, is_power}

unfoldable pub size : Cx whole → ℕ
size g = nat_abs g.re + nat_abs g.im

-- ---- parts
abs_plus : (z w : ℤ) → nat_abs (z ⊞ w) ≤ nat_abs z + nat_abs w
unfolding ◌⊞◌
abs_plus z w = abs_add z w

pub abs_opposite : (z : ℤ) → nat_abs (neg z) ≡ nat_abs z
unfolding neg
abs_opposite z = abs_neg z

abs_times : (z w : ℤ) → nat_abs (z ⊠ w) ≡ nat_abs z * nat_abs w
unfolding ◌⊠◌
abs_times z w = abs_mul z w

-- ---- a number
pub size_re : (g : Cx whole) → nat_abs g.re ≤ size g
unfolding size
size_re g = omega arith

pub size_im : (g : Cx whole) → nat_abs g.im ≤ size g
unfolding size
size_im g = omega arith

pub size_within : {b : ℕ} {g : Cx whole} → size g ≤ b → Within b g
size_within {g} h = record { re = le_trans (size_re g) h; im = le_trans (size_im g) h }

within_size : {b : ℕ} {g : Cx whole} → Within b g → size g ≤ b + b
unfolding size
within_size {b} {g} h = omega (arith, h.re, h.im)

size_real : (z : ℤ) → size (real_c whole z) ≡ nat_abs z
unfolding size
size_real z = omega arith

pub size_add : (g h : Cx whole) → size (add_c whole g h) ≤ size g + size h
unfolding size add_c
size_add g h = omega (arith, abs_plus g.re h.re, abs_plus g.im h.im)

size_neg : (g : Cx whole) → size (neg_c whole g) ≡ size g
unfolding size neg_c
size_neg g = ap₂ ◌+◌ (abs_opposite g.re) (abs_opposite g.im)

size_conj : (g : Cx whole) → size (conj_c whole g) ≡ size g
unfolding size conj_c
size_conj g = ap (λ (n : ℕ). nat_abs g.re + n) (abs_opposite g.im)

-- (a + b) (c + d), by its four products
four : (a b c d : ℕ) → (a + b) * (c + d) ≡ (a * c + a * d) + (b * c + b * d)
four a b c d = rw (add-mul a b (c + d), mul-add a c d, mul-add b c d) refl

size_mul : (g h : Cx whole) → size (mul_c whole g h) ≤ size g * size h
unfolding size mul_c
size_mul g h =
    let a : ℕ = nat_abs g.re in
    let b : ℕ = nat_abs g.im in
    let c : ℕ = nat_abs h.re in
    let d : ℕ = nat_abs h.im in
    omega (
      arith,
      four a b c d,
      abs_plus (g.re ⊠ h.re) (neg (g.im ⊠ h.im)),
      abs_opposite (g.im ⊠ h.im),
      abs_plus (g.re ⊠ h.im) (g.im ⊠ h.re),
      abs_times g.re h.re,
      abs_times g.im h.im,
      abs_times g.re h.im,
      abs_times g.im h.re,
    )

size_unit : (n : ℕ) → size (unit_c whole n) ≡ 1
unfolding size unit_c neg
size_unit zero = refl
size_unit (suc zero) = refl
size_unit (suc (suc zero)) = refl
size_unit (suc (suc (suc n))) = refl

-- ---- exactly a Gaussian integer, of at most a size
pub record Sized (b : ℕ) (x : Cx floats) (g : Cx whole) : Type 0 where
  pub value : IsG x g
  pub most : size g ≤ b

pub sized_mono : {b c : ℕ} {x : Cx floats} {g : Cx whole} → b ≤ c → Sized b x g → Sized c x g
sized_mono l p = record { value = p.value; most = le_trans p.most l }

pub sized_mul : {b c : ℕ} {x y : Cx floats} {g h : Cx whole} → 2 * (b * c) ≤ 2 ^ 53 → Sized b x g → Sized c y h → Sized (b * c) (mul_c floats x y) (mul_c whole g h)
sized_mul {g} {h} l p q =
    record {
      value = is_product p.value q.value (size_within p.most) (size_within q.most) l;
      most = le_trans (size_mul g h) (mul-le-mul p.most q.most);
    }

pub sized_conj : {b : ℕ} {x : Cx floats} {g : Cx whole} → Sized b x g → Sized b (conj_c floats x) (conj_c whole g)
sized_conj {g} p = record { value = is_conjugate p.value; most = omega (arith, size_conj g, p.most) }

pub sized_neg : {b : ℕ} {x : Cx floats} {g : Cx whole} → Sized b x g → Sized b (neg_c floats x) (neg_c whole g)
sized_neg {g} p = record { value = is_negative p.value; most = omega (arith, size_neg g, p.most) }

pub sized_unit : (n : ℕ) → Sized 1 (unit_c floats n) (unit_c whole n)
sized_unit n = record { value = is_power n; most = omega (arith, size_unit n) }

pub sized_real : {b : ℕ} {x : Float} {z : ℤ} → Is x z → nat_abs z ≤ b → Sized b (real_c floats x) (real_c whole z)
sized_real {z} p l = record { value = is_real p; most = omega (arith, size_real z) }

pub sized_within : {b : ℕ} {x : Cx floats} {g : Cx whole} → IsG x g → Within b g → Sized (b + b) x g
sized_within p w = record { value = p; most = within_size w }

pub sized_sum : {b c : ℕ} {x y : Cx floats} {g h : Cx whole} → b + c ≤ 2 ^ 53 → Sized b x g → Sized c y h → IsG (add_c floats x y) (add_c whole g h)
sized_sum {g} {h} l p q = is_sum p.value q.value (size_within (omega (arith, size_add g h, p.most, q.most)))

pub sized_zero : Sized 0 (zero_c floats) (zero_c whole)
unfolding size
sized_zero = record { value = record { re = is_nought_lem; im = is_nought_lem }; most = lit≤ tt }

-- ---- a real number, of at most a magnitude
pub record Sure (b : ℕ) (x : Float) (z : ℤ) : Type 0 where
  pub value : Is x z
  pub most : nat_abs z ≤ b

pub sure_mul : {b c : ℕ} {x y : Float} {z w : ℤ} → b * c ≤ 2 ^ 53 → Sure b x z → Sure c y w → Sure (b * c) (floats.times x y) (whole.times z w)
sure_mul {b} {c} {z} {w} l p q =
    let m : nat_abs (z ⊠ w) ≤ b * c = omega (arith, abs_times z w, mul-le-mul p.most q.most) in
    record { value = is_mul p.value q.value (le_trans m l); most = m }
