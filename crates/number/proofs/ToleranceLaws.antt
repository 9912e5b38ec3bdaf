-- SPDX-FileCopyrightText: 2026 The PPVM Authors
-- SPDX-License-Identifier: Apache-2.0

-- A test of a whole number against a tolerance passes only at 0, over f64 as over the whole numbers. Assumes nothing.
use mathlib.Core.Path.{◌≡◌, refl, sym, ap, ◌∙◌, subst, subst₂}
use Prim.Native.Nat.{ℕ, zero, suc, ◌*◌, ◌^◌, ◌≤◌, ◌<◌, zero-le}
use native.Mathlib.Nat.{le_trans, le_antisymm, le_of_eq, lt_of_le_of_lt, lt_of_lt_of_le, lt_of_mul-lt-mul_right, zero-lt-suc, zero-mul, one-mul}
use native.Mathlib.Omega.{arith}
use mathlib.Core.Bool.{Bool, true, false, cond}
use lib.IntN.{ℤ, pos, negsuc, nat_abs}
use lib.Arith.{lt-one}
use borrow.Author.Tests.{leb-true, leb-false, ltb-true, ltb-false}
use lib.Dec.{T, leb, ltb, eqb, leb→le, le→leb, eqb→eq, eqb-suc-zero, lit≤, lit<}
use lib.Ieee.{Float, fin, Format, binary64, low, of_bits, mul, le, fits}
use lib.Ieee.Fits.{eq→eqb, mul-fits, add-fits}
use lib.Ieee.Exact.{HasValue}
use lib.Ieee.Scale.{finite}
use lib.Ieee.Positive.{num, den, positive, own_value, den_pos, positive_of_value, mul_at, mul_mono}
use Rattle.number.specs.Numbers.{Cx, square}
use Rattle.number.specs.Whole.{◌⊠◌, is_nought, at_most, larger_whole, ten_to20, ten_to28, whole}
use Rattle.number.specs.Floats.{tolerance, tolerance_squared, hermiticity_tolerance, hermiticity_squared, larger_float, floats}
use Rattle.number.specs.Key.{nonneg, key}
use Rattle.number.specs.Exact.{Is, IsG, Within, norm_g}
use Rattle.number.proofs.Tests.{same_test, passes}
use Rattle.number.proofs.Integers.{signed_one}
use Rattle.number.proofs.KeyLaws.{le_key, le_refl_of, magnitude_fits, unsigned, round_unsigned, unsigned_nonneg}
use Rattle.number.proofs.WholeFloats.{whole_nought, is_lt, is_le, is_nonneg, is_key}
use Rattle.number.proofs.ExactLaws.{is_unit, is_magnitude}
use Rattle.number.proofs.ExactComplex.{is_square, square_is}

-- ---- a whole number is at most a y below 1 only where it is zero

pub under_one : (f : Format) {x : Float} (y : Float) {n : ℕ} → T (fits f x) → T (fits f y) → Is x (pos n) → T (nonneg y) → key f y < 2 ^ low f → le x y ≡ eqb n 0
under_one f {x} y {n} F G h k l =
    let e : le x y ≡ leb (n * 2 ^ low f) (key f y) = le_key f x y F G (is_nonneg h) k ∙ ap (λ (m : ℕ). leb m (key f y)) (is_key f F h) in
    e ∙ same_test (leb (n * 2 ^ low f) (key f y)) (eqb n 0)
    (λ t. eq→eqb (lt-one (lt_of_mul-lt-mul_right (2 ^ low f) (lt_of_le_of_lt (leb→le (n * 2 ^ low f) (key f y) t) (lt_of_lt_of_le l (le_of_eq (sym (one-mul (2 ^ low f)))))))))
    (λ t. le→leb (n * 2 ^ low f) (key f y) (le_trans (le_of_eq (ap (λ (m : ℕ). m * 2 ^ low f) (eqb→eq n 0 t) ∙ zero-mul (2 ^ low f))) zero-le))

-- ---- the square of 1e-14

tolerance_is : tolerance_squared ≡ fin false 8920298079412249 (negsuc 145)
unfolding of_bits mul
tolerance_is = refl

-- 1e-14
ten_is : tolerance ≡ fin false 6338253001141147 (negsuc 98)
unfolding of_bits
ten_is = refl

ten_fits : T (fits binary64 tolerance)
unfolding fits
ten_fits = subst (λ (x : Float). T (fits binary64 x)) (sym ten_is) tt

ten_nonneg : T (nonneg tolerance)
ten_nonneg = subst (λ (x : Float). T (nonneg x)) (sym ten_is) tt

ten_key : key binary64 tolerance < 2 ^ 1074
unfolding key
ten_key = subst (λ (x : Float). key binary64 x < 2 ^ 1074) (sym ten_is) (lit< tt)

nought_is : (n : ℕ) → is_nought (pos n) ≡ eqb n 0
unfolding is_nought
nought_is zero = refl
nought_is (suc n) = sym (eqb-suc-zero n)

tolerance_fits : T (fits binary64 tolerance_squared)
tolerance_fits = mul-fits binary64 tolerance tolerance

tolerance_positive : T (positive tolerance_squared)
tolerance_positive = subst (λ (x : Float). T (positive x)) (sym tolerance_is) tt

tolerance_nonneg : T (nonneg tolerance_squared)
tolerance_nonneg = subst (λ (x : Float). T (nonneg x)) (sym tolerance_is) tt

tolerance_key : key binary64 tolerance_squared < 2 ^ 1074
unfolding key
tolerance_key = subst (λ (x : Float). key binary64 x < 2 ^ 1074) (sym tolerance_is) (lit< tt)

-- a Gaussian integer with parts up to 2 ^ 26 passes the test where it is 0
pub small_is : {x : Cx floats} {g : Cx whole} → IsG x g → Within (2 ^ 26) g → floats.small (square floats x) ≡ whole.small (square whole g)
small_is {x} {g} p w =
    under_one binary64 tolerance_squared (add-fits binary64 (mul binary64 x.re x.re) (mul binary64 x.im x.im)) tolerance_fits (subst (Is (square floats x)) (square_is g) (is_square p w (lit≤ tt))) tolerance_nonneg tolerance_key
    ∙ sym (ap is_nought (square_is g) ∙ nought_is (norm_g g))

-- and a whole number, by its magnitude
pub slight_is : {x : Float} {z : ℤ} → T (fits binary64 x) → Is x z → floats.slight x ≡ whole.slight z
unfolding is_nought
slight_is {x} {z} F p =
    under_one binary64 tolerance (magnitude_fits binary64 x F) ten_fits (is_magnitude p) ten_nonneg ten_key
    ∙ go z
  where
    go : (z : ℤ) → eqb (nat_abs z) 0 ≡ is_nought z
    go (pos n) = sym (nought_is n)
    go (negsuc n) = eqb-suc-zero n

-- ---- beside a whole number from 1 to 2 ^ 53

abbrev most : Float
most = fin false 1 (pos 53)

most_is : Is most (pos (2 ^ 53))
most_is = record { sign = false; size = 2 ^ 53; value = (refl, refl); is = refl }

-- a whole number above zero has no minus sign
plain_value : {x : Float} {k : ℕ} → Is x (pos k) → 0 < k → HasValue x false k 1
plain_value {x} {k} h l =
    let i = signed_one h.sign h.size false k h.is (λ e. above k l (ap nat_abs (sym h.is ∙ e))) in
    subst₂ (λ (s : Bool) (n : ℕ). HasValue x s n 1) i.0 i.1 h.value
  where
    above : (k : ℕ) → 0 < k → k ≡ 0 → ⊥
    above k l e = omega arith

-- what makes c a tolerance: c × 2 ^ 53 is below 1
record Tolerance (c : Float) : Type 0 where
  fits_it : T (fits binary64 c)
  above_zero : T (positive c)
  plain : T (nonneg c)
  most_plain : T (nonneg (mul binary64 c most))
  most_below : key binary64 (mul binary64 c most) < 2 ^ 1074

module _ {c : Float} (C : Tolerance c) {y x : Float} {n k : ℕ} (F : T (fits binary64 y)) (p : Is y (pos n)) (h : Is x (pos k)) (l : 0 < k) (m : k ≤ 2 ^ 53) where
  beside_nonneg : T (nonneg (mul binary64 c x))
  beside_nonneg =
      unsigned_nonneg (mul binary64 c x)
      (subst (λ (y : Float). T (unsigned y)) (sym (mul_at binary64 c x (num c) (den c) k 1 C.above_zero (positive_of_value x k 1 (plain_value h l) l) (den_pos c) (zero-lt-suc 0) (own_value c C.above_zero) (plain_value h l)))
      (round_unsigned binary64 (num c * k) (den c * 1)))

  beside_key : key binary64 (mul binary64 c x) < 2 ^ 1074
  beside_key =
      let up_to : T (le (mul binary64 c x) (mul binary64 c most)) =
      mul_mono binary64 c c x most C.above_zero C.above_zero (positive_of_value x k 1 (plain_value h l) l) tt
      (le_refl_of binary64 c C.fits_it C.plain) (passes (is_le h most_is) (le→leb k (2 ^ 53) m)) in
      lt_of_le_of_lt
      (leb→le (key binary64 (mul binary64 c x)) (key binary64 (mul binary64 c most))
      (passes (sym (le_key binary64 (mul binary64 c x) (mul binary64 c most) (mul-fits binary64 c x) (mul-fits binary64 c most) beside_nonneg C.most_plain)) up_to))
      C.most_below

  -- a whole number is at most c × x where it is 0
  under_product : le y (mul binary64 c x) ≡ eqb n 0
  under_product = under_one binary64 (mul binary64 c x) F (mul-fits binary64 c x) p beside_nonneg beside_key

drop_tolerance : Tolerance tolerance_squared
unfolding key mul
drop_tolerance = record {
  fits_it = tolerance_fits;
  above_zero = tolerance_positive;
  plain = tolerance_nonneg;
  most_plain = subst (λ (x : Float). T (nonneg (mul binary64 x most))) (sym tolerance_is) tt;
  most_below = subst (λ (x : Float). key binary64 (mul binary64 x most) < 2 ^ 1074) (sym tolerance_is) (lit< tt);
}

-- a whole number passes the test beside x where it is 0
beside_is : {y x : Float} {n k : ℕ} → T (fits binary64 y) → Is y (pos n) → Is x (pos k) → k ≤ 2 ^ 53 → floats.slighter y x ≡ eqb n 0
beside_is {x} {n} {k = zero} F p h m = is_le p (whole_nought binary64 tolerance_squared finite_tolerance h) ∙ same_test (leb n 0) (eqb n 0) (λ t. eq→eqb (le_antisymm (leb→le n 0 t) zero-le)) (λ t. le→leb n 0 (le_of_eq (eqb→eq n 0 t)))
  where
    finite_tolerance : T (finite tolerance_squared)
    finite_tolerance = subst (λ (x : Float). T (finite x)) (sym tolerance_is) tt
beside_is {x} {k = suc k} F p h m = under_product drop_tolerance F p h (zero-lt-suc k) m

pub slighter_is : {y x : Float} {n k : ℕ} → T (fits binary64 y) → Is y (pos n) → Is x (pos k) → k ≤ 2 ^ 53 → floats.slighter y x ≡ whole.slighter (pos n) (pos k)
unfolding at_most ◌⊠◌
slighter_is {n} {k} F p h m =
    beside_is F p h m
    ∙ same_test (eqb n 0) (leb (n * ten_to28) k)
    (λ t. let e = eqb→eq n 0 t in le→leb (n * ten_to28) k (omega arith))
    (λ t. let g = leb→le (n * ten_to28) k t in let e : n ≡ 0 = omega arith in eq→eqb e)

-- ---- the larger of two

module _ {x y : Float} {n k : ℕ} (h : Is x (pos n)) (g : Is y (pos k)) where
  larger_cases : (b c : Bool) → ltb n k ≡ b → leb n k ≡ c → Is (cond b y x) (cond c (pos k) (pos n))
  larger_cases true true e f = g
  larger_cases true false e f = absurd (omega (arith, ltb-true n k e, leb-false n k f))
  larger_cases false true e f = subst (Is x) (ap pos (le_antisymm (leb-true n k f) (ltb-false n k e))) h
  larger_cases false false e f = h

  pub larger_is : Is (floats.larger x y) (whole.larger (pos n) (pos k))
  unfolding larger_float larger_whole at_most
  larger_is = subst (λ (b : Bool). Is (cond b y x) (cond (leb n k) (pos k) (pos n))) (sym (is_lt h g)) (larger_cases (ltb n k) (leb n k) refl refl)

-- it is one of the two, and at least the first
pub larger_one : (n k : ℕ) → (m : ℕ) × (whole.larger (pos n) (pos k) ≡ pos m) × (n ≤ m) × ((b : ℕ) → n ≤ b → k ≤ b → m ≤ b)
unfolding larger_whole at_most
larger_one n k = go (leb n k) refl
  where
    go : (c : Bool) → leb n k ≡ c → (m : ℕ) × (cond c (pos k) (pos n) ≡ pos m) × (n ≤ m) × ((b : ℕ) → n ≤ b → k ≤ b → m ≤ b)
    go true e = (k, refl, leb-true n k e, λ b p q. q)
    go false e = (n, refl, omega arith, λ b p q. p)

-- ---- the square of 1e-10

hermiticity_is : hermiticity_squared ≡ fin false 1661534994731145 (negsuc 116)
unfolding of_bits mul
hermiticity_is = refl

hermiticity_tolerance_lem : Tolerance hermiticity_squared
unfolding key mul
hermiticity_tolerance_lem = record {
  fits_it = mul-fits binary64 hermiticity_tolerance hermiticity_tolerance;
  above_zero = subst (λ (x : Float). T (positive x)) (sym hermiticity_is) tt;
  plain = subst (λ (x : Float). T (nonneg x)) (sym hermiticity_is) tt;
  most_plain = subst (λ (x : Float). T (nonneg (mul binary64 x most))) (sym hermiticity_is) tt;
  most_below = subst (λ (x : Float). key binary64 (mul binary64 x most) < 2 ^ 1074) (sym hermiticity_is) (lit< tt);
}

-- a whole number passes the test beside the larger of 1 and x where it is 0
pub near_is : {y x : Float} {n k : ℕ} → T (fits binary64 y) → Is y (pos n) → Is x (pos k) → k ≤ 2 ^ 53 → floats.near y x ≡ whole.near (pos n) (pos k)
unfolding at_most ◌⊠◌
near_is {n} {k} F p h m =
    let one = larger_one 1 k in
    under_product hermiticity_tolerance_lem F p (subst (Is _) one.1 (larger_is is_unit h)) (omega (arith, one.2)) (one.3 (2 ^ 53) (lit≤ tt) m)
    ∙ same_test (eqb n 0) (leb (n * ten_to20) one.0)
    (λ t. let e = eqb→eq n 0 t in le→leb (n * ten_to20) one.0 (omega arith))
    (λ t. let g = leb→le (n * ten_to20) one.0 t in let e : n ≡ 0 = omega (arith, one.3 (2 ^ 53) (lit≤ tt) m, g) in eq→eqb e)
    ∙ ap (at_most (pos (n * ten_to20))) (sym one.1)
