-- SPDX-FileCopyrightText: 2026 The PPVM Authors
-- SPDX-License-Identifier: Apache-2.0

-- Complex numbers that are Gaussian integers: their arithmetic is exact while the bounds stay within 2 ^ 53. Assumes nothing.
use mathlib.Core.Path.{◌≡◌, refl, ap, ap₂, ◌∙◌}
use Prim.Native.Nat.{ℕ, zero, suc, ◌+◌, ◌*◌, ◌^◌, ◌≤◌, ◌<◌}
use native.Mathlib.Nat.{le_trans, le_of_eq, mul-le-mul, add-le-add, mul-pos, zero-lt-suc}
use native.Mathlib.Omega.{arith}
use lib.Dec.{lit≤}
use lib.IntN.{ℤ, pos, negsuc, nat_abs}
use lib.Ieee.{Float}
use Rattle.number.specs.Numbers.{Cx, add_c, sub_c, neg_c, mul_c, conj_c, zero_c, real_c, square, unit_c}
use Rattle.number.specs.Whole.{◌⊞◌, neg, ◌⊠◌, whole}
use Rattle.number.specs.Floats.{floats}
use Rattle.number.specs.Exact.{Is, IsG, Within, norm_g}
use Rattle.number.proofs.Integers.{abs_neg, abs_add, abs_minus, abs_mul, abs_zero}
use Rattle.number.proofs.ExactLaws.{is_nought_lem, is_unit, is_add, is_sub, is_mul, is_neg}

-- ---- bounds

plus : {b c : ℕ} (z w : ℤ) → nat_abs z ≤ b → nat_abs w ≤ c → nat_abs (z ⊞ w) ≤ b + c
unfolding ◌⊞◌
plus z w p q = le_trans (abs_add z w) (add-le-add p q)

less : {b c : ℕ} (z w : ℤ) → nat_abs z ≤ b → nat_abs w ≤ c → nat_abs (z ⊞ neg w) ≤ b + c
unfolding ◌⊞◌ neg
less z w p q = le_trans (abs_minus z w) (add-le-add p q)

pub times : {b c : ℕ} (z w : ℤ) → nat_abs z ≤ b → nat_abs w ≤ c → nat_abs (z ⊠ w) ≤ b * c
unfolding ◌⊠◌
times z w p q = le_trans (le_of_eq (abs_mul z w)) (mul-le-mul p q)

turned : {b : ℕ} (z : ℤ) → nat_abs z ≤ b → nat_abs (neg z) ≤ b
unfolding neg
turned z p = le_trans (le_of_eq (abs_neg z)) p

double : (n : ℕ) → n + n ≡ 2 * n
double n = omega arith

pub within_mono : {b c : ℕ} {g : Cx whole} → b ≤ c → Within b g → Within c g
within_mono h w = record { re = le_trans w.re h; im = le_trans w.im h }

module _ {b c : ℕ} {g h : Cx whole} (p : Within b g) (q : Within c h) where
  pub within_add : Within (b + c) (add_c whole g h)
  unfolding add_c
  within_add = record { re = plus g.re h.re p.re q.re; im = plus g.im h.im p.im q.im }

  pub within_sub : Within (b + c) (sub_c whole g h)
  unfolding sub_c
  within_sub = record { re = less g.re h.re p.re q.re; im = less g.im h.im p.im q.im }

  pub within_mul : Within (2 * (b * c)) (mul_c whole g h)
  unfolding mul_c
  within_mul = record {
    re = le_trans (less (g.re ⊠ h.re) (g.im ⊠ h.im) (times g.re h.re p.re q.re) (times g.im h.im p.im q.im)) (le_of_eq (double (b * c)));
    im = le_trans (plus (g.re ⊠ h.im) (g.im ⊠ h.re) (times g.re h.im p.re q.im) (times g.im h.re p.im q.re)) (le_of_eq (double (b * c)));
  }

pub within_neg : {b : ℕ} {g : Cx whole} → Within b g → Within b (neg_c whole g)
unfolding neg_c
within_neg {g} p = record { re = turned g.re p.re; im = turned g.im p.im }

pub within_conj : {b : ℕ} {g : Cx whole} → Within b g → Within b (conj_c whole g)
unfolding conj_c
within_conj {g} p = record { re = p.re; im = turned g.im p.im }

pub within_real : {b : ℕ} (z : ℤ) → nat_abs z ≤ b → Within b (real_c whole z)
within_real z p = record { re = p; im = omega arith }

pub within_unit : (n : ℕ) → Within 1 (unit_c whole n)
unfolding unit_c neg
within_unit zero = record { re = lit≤ tt; im = lit≤ tt }
within_unit (suc zero) = record { re = lit≤ tt; im = lit≤ tt }
within_unit (suc (suc zero)) = record { re = lit≤ tt; im = lit≤ tt }
within_unit (suc (suc (suc n))) = record { re = lit≤ tt; im = lit≤ tt }

-- ---- the operations

module _ {x y : Cx floats} {g h : Cx whole} (p : IsG x g) (q : IsG y h) where
  pub is_sum : Within (2 ^ 53) (add_c whole g h) → IsG (add_c floats x y) (add_c whole g h)
  unfolding add_c
  is_sum w = record { re = is_add p.re q.re w.re; im = is_add p.im q.im w.im }

  pub is_difference : Within (2 ^ 53) (sub_c whole g h) → IsG (sub_c floats x y) (sub_c whole g h)
  unfolding sub_c
  is_difference w = record { re = is_sub p.re q.re w.re; im = is_sub p.im q.im w.im }

  -- half of a bound
  part : (n : ℕ) → 2 * n ≤ 2 ^ 53 → n ≤ 2 ^ 53
  part n l = omega arith

  pub is_product : {m n : ℕ} → Within m g → Within n h → 2 * (m * n) ≤ 2 ^ 53 → IsG (mul_c floats x y) (mul_c whole g h)
  unfolding mul_c
  is_product {m} {n} v w l =
      let r = within_mul v w in
      record {
        re = is_sub
            (is_mul p.re q.re (le_trans (times g.re h.re v.re w.re) (part (m * n) l)))
            (is_mul p.im q.im (le_trans (times g.im h.im v.im w.im) (part (m * n) l)))
            (le_trans r.re l);
        im = is_add
            (is_mul p.re q.im (le_trans (times g.re h.im v.re w.im) (part (m * n) l)))
            (is_mul p.im q.re (le_trans (times g.im h.re v.im w.re) (part (m * n) l)))
            (le_trans r.im l);
      }

module _ {x : Cx floats} {g : Cx whole} (p : IsG x g) where
  pub is_negative : IsG (neg_c floats x) (neg_c whole g)
  unfolding neg_c
  is_negative = record { re = is_neg p.re; im = is_neg p.im }

  pub is_conjugate : IsG (conj_c floats x) (conj_c whole g)
  unfolding conj_c
  is_conjugate = record { re = p.re; im = is_neg p.im }

pub is_real : {x : Float} {z : ℤ} → Is x z → IsG (real_c floats x) (real_c whole z)
is_real h = record { re = h; im = is_nought_lem }

pub is_power : (n : ℕ) → IsG (unit_c floats n) (unit_c whole n)
unfolding unit_c
is_power zero = record { re = is_unit; im = is_nought_lem }
is_power (suc zero) = record { re = is_nought_lem; im = is_unit }
is_power (suc (suc zero)) = record { re = is_neg is_unit; im = is_nought_lem }
is_power (suc (suc (suc n))) = record { re = is_nought_lem; im = is_neg is_unit }

-- ---- squared magnitudes

own_square : (z : ℤ) → z ⊠ z ≡ pos (nat_abs z * nat_abs z)
unfolding ◌⊠◌
own_square (pos a) = refl
own_square (negsuc a) = refl

pub square_is : (g : Cx whole) → square whole g ≡ pos (norm_g g)
unfolding ◌⊞◌
square_is g = ap₂ ◌⊞◌ (own_square g.re) (own_square g.im) ∙ added (nat_abs g.re * nat_abs g.re) (nat_abs g.im * nat_abs g.im)
  where
    added : (a b : ℕ) → pos a ⊞ pos b ≡ pos (a + b)
    added a b = refl

pub norm_le : {b : ℕ} {g : Cx whole} → Within b g → norm_g g ≤ 2 * (b * b)
norm_le {b} p = le_trans (add-le-add (mul-le-mul p.re p.re) (mul-le-mul p.im p.im)) (le_of_eq (double (b * b)))

pub is_square : {x : Cx floats} {g : Cx whole} {n : ℕ} → IsG x g → Within n g → 2 * (n * n) ≤ 2 ^ 53 → Is (square floats x) (square whole g)
is_square {g} {n} p v l =
    is_add
    (is_mul p.re p.re (le_trans (times g.re g.re v.re v.re) (part p p (n * n) l)))
    (is_mul p.im p.im (le_trans (times g.im g.im v.im v.im) (part p p (n * n) l)))
    (le_trans (le_of_eq (ap nat_abs (square_is g))) (le_trans (norm_le v) l))

-- only 0 has the squared magnitude 0
pub norm_zero : (g : Cx whole) → norm_g g ≡ 0 → g ≡ zero_c whole
norm_zero g e = ap₂ (λ (x y : ℤ). record { re = x; im = y }) (abs_zero g.re (root (nat_abs g.re) (nat_abs g.im * nat_abs g.im) e)) (abs_zero g.im (root (nat_abs g.im) (nat_abs g.re * nat_abs g.re) (omega arith)))
  where
    root : (a b : ℕ) → a * a + b ≡ 0 → a ≡ 0
    root zero b e = refl
    root (suc a) b e = absurd (let l : 0 < suc a * suc a = mul-pos (zero-lt-suc a) (zero-lt-suc a) in omega arith)
