-- SPDX-FileCopyrightText: 2026 The PPVM Authors
-- SPDX-License-Identifier: Apache-2.0

-- Gaussian integers: the ring laws that the generator needs. Assumes nothing.
use mathlib.Core.Path.{◌≡◌, refl, sym, ap, ◌∙◌}
use Prim.Native.Nat.{ℕ, zero, suc, ◌+◌, ◌*◌, ◌%◌, ◌/◌}
use native.Mathlib.Omega.{arith}
use lib.IntN.{pos}
use Rattle.number.specs.Numbers.{add_c, neg_c, mul_c, conj_c}
use Rattle.number.specs.Whole.{◌⊞◌, neg, ◌⊠◌}
use Rattle.gksl.specs.Gauss.{Gauss, zero_g, one_g, add_g, neg_g, mul_g, conj_g, i_g, turn}
use Rattle.number.proofs.WholeLaws.{sums, products, add_neg}

-- twice the real part
unfoldable pub twice_re : Gauss → Gauss
twice_re x = record { re = x.re ⊞ x.re; im = pos 0 }

-- the imaginary part, as a real number
unfoldable pub im_of : Gauss → Gauss
im_of x = record { re = x.im; im = pos 0 }

pub same : {x y : Gauss} → x.re ≡ y.re → x.im ≡ y.im → x ≡ y
same p q = λ i. record { re = p i; im = q i }

-- ---- real and imaginary parts of each operation
pub re_add : (x y : Gauss) → (add_g x y).re ≡ x.re ⊞ y.re
unfolding add_c
re_add x y = refl

pub im_add : (x y : Gauss) → (add_g x y).im ≡ x.im ⊞ y.im
unfolding add_c
im_add x y = refl

pub re_neg : (x : Gauss) → (neg_g x).re ≡ neg x.re
unfolding neg_c
re_neg x = refl

pub im_neg : (x : Gauss) → (neg_g x).im ≡ neg x.im
unfolding neg_c
im_neg x = refl

pub re_mul : (x y : Gauss) → (mul_g x y).re ≡ x.re ⊠ y.re ⊞ neg (x.im ⊠ y.im)
unfolding mul_c
re_mul x y = refl

pub im_mul : (x y : Gauss) → (mul_g x y).im ≡ x.re ⊠ y.im ⊞ x.im ⊠ y.re
unfolding mul_c
im_mul x y = refl

pub re_conj : (x : Gauss) → (conj_g x).re ≡ x.re
unfolding conj_c
re_conj x = refl

pub im_conj : (x : Gauss) → (conj_g x).im ≡ neg x.im
unfolding conj_c
im_conj x = refl

pub re_i : (x : Gauss) → (i_g x).re ≡ neg x.im
unfolding i_g
re_i x = refl

pub im_i : (x : Gauss) → (i_g x).im ≡ x.re
unfolding i_g
im_i x = refl

pub re_twice : (x : Gauss) → (twice_re x).re ≡ x.re ⊞ x.re
unfolding twice_re
re_twice x = refl

pub im_twice : (x : Gauss) → (twice_re x).im ≡ pos 0
unfolding twice_re
im_twice x = refl

pub re_im : (x : Gauss) → (im_of x).re ≡ x.im
unfolding im_of
re_im x = refl

pub im_im : (x : Gauss) → (im_of x).im ≡ pos 0
unfolding im_of
im_im x = refl

pub re_one : one_g.re ≡ pos 1
re_one = refl

pub im_one : one_g.im ≡ pos 0
im_one = refl

pub re_zero : zero_g.re ≡ pos 0
re_zero = refl

pub im_zero : zero_g.im ≡ pos 0
im_zero = refl

pub ruleset parts = (re_one, im_one, re_zero, im_zero, re_add, im_add, re_neg, im_neg, re_mul, im_mul, re_conj, im_conj, re_i, im_i, re_twice, im_twice, re_im, im_im, sums)

pub plus_comm : (x y : Gauss) → add_g x y ≡ add_g y x
plus_comm x y = same (simp parts) (simp parts)

pub plus_zero : (x : Gauss) → add_g x zero_g ≡ x
plus_zero x = same (simp parts) (simp parts)

pub neg_plus : (x y : Gauss) → neg_g (add_g x y) ≡ add_g (neg_g x) (neg_g y)
neg_plus x y = same (simp parts) (simp parts)

pub times_comm : (x y : Gauss) → mul_g x y ≡ mul_g y x
times_comm x y = same (simp (parts, products)) (simp (parts, products))

pub times_assoc : (x y z : Gauss) → mul_g (mul_g x y) z ≡ mul_g x (mul_g y z)
times_assoc x y z = same (simp (parts, products)) (simp (parts, products))

pub plus_times : (x y k : Gauss) → mul_g (add_g x y) k ≡ add_g (mul_g x k) (mul_g y k)
plus_times x y k = same (simp (parts, products)) (simp (parts, products))

pub times_one : (x : Gauss) → mul_g x one_g ≡ x
times_one x = same (simp (parts, products)) (simp (parts, products))

pub i_times : (x y : Gauss) → mul_g (i_g x) y ≡ i_g (mul_g x y)
i_times x y = same (simp (parts, products)) (simp (parts, products))

pub i_plus : (x y : Gauss) → i_g (add_g x y) ≡ add_g (i_g x) (i_g y)
i_plus x y = same (simp parts) (simp parts)

pub i_four : (x : Gauss) → i_g (i_g (i_g (i_g x))) ≡ x
i_four x = same (simp parts) (simp parts)

pub conj_plus : (x y : Gauss) → conj_g (add_g x y) ≡ add_g (conj_g x) (conj_g y)
conj_plus x y = same (simp parts) (simp parts)

pub conj_times : (x y : Gauss) → conj_g (mul_g x y) ≡ mul_g (conj_g x) (conj_g y)
conj_times x y = same (simp (parts, products)) (simp (parts, products))

pub conj_conj : (x : Gauss) → conj_g (conj_g x) ≡ x
conj_conj x = same (simp parts) (simp parts)

pub conj_neg : (x : Gauss) → conj_g (neg_g x) ≡ neg_g (conj_g x)
unfolding conj_c neg_c
conj_neg x = refl

pub conj_i : (x : Gauss) → conj_g (i_g x) ≡ i_g (i_g (i_g (conj_g x)))
conj_i x = same (simp parts) (simp parts)

-- ---- turns
pub turn_plus : (m n : ℕ) (x : Gauss) → turn (m + n) x ≡ turn m (turn n x)
unfolding turn
turn_plus zero n x = let e : zero + n ≡ n = omega arith in ap (λ (k : ℕ). turn k x) e
turn_plus (suc m) n x =
    let e : suc m + n ≡ suc (m + n) = omega arith in
    ap (λ (k : ℕ). turn k x) e ∙ ap i_g (turn_plus m n x)

pub turn_four : (q n : ℕ) (x : Gauss) → turn (q * 4 + n) x ≡ turn n x
unfolding turn
turn_four zero n x = let e : zero * 4 + n ≡ n = omega arith in ap (λ (k : ℕ). turn k x) e
turn_four (suc q) n x =
    let e : suc q * 4 + n ≡ suc (suc (suc (suc (q * 4 + n)))) = omega arith in
    ap (λ (k : ℕ). turn k x) e ∙ i_four (turn (q * 4 + n) x) ∙ turn_four q n x

-- only the phase modulo 4 matters
pub turn_mod : (n : ℕ) (x : Gauss) → turn n x ≡ turn (n % 4) x
turn_mod n x = let e : n ≡ n / 4 * 4 + n % 4 = omega arith in ap (λ (k : ℕ). turn k x) e ∙ turn_four (n / 4) (n % 4) x

pub turn_like : (m n : ℕ) (x : Gauss) → m % 4 ≡ n % 4 → turn m x ≡ turn n x
turn_like m n x h = turn_mod m x ∙ ap (λ (k : ℕ). turn k x) h ∙ sym (turn_mod n x)

pub turn_times : (n : ℕ) (x y : Gauss) → mul_g (turn n x) y ≡ turn n (mul_g x y)
unfolding turn
turn_times zero x y = refl
turn_times (suc n) x y = i_times (turn n x) y ∙ ap i_g (turn_times n x y)

pub times_turn : (n : ℕ) (x y : Gauss) → mul_g x (turn n y) ≡ turn n (mul_g x y)
times_turn n x y = times_comm x (turn n y) ∙ turn_times n y x ∙ ap (turn n) (times_comm y x)

pub turn_add : (n : ℕ) (x y : Gauss) → turn n (add_g x y) ≡ add_g (turn n x) (turn n y)
unfolding turn
turn_add zero x y = refl
turn_add (suc n) x y = ap i_g (turn_add n x y) ∙ i_plus (turn n x) (turn n y)

-- the conjugate turns the other way
pub conj_turn : (n : ℕ) (x : Gauss) → conj_g (turn n x) ≡ turn (3 * n) (conj_g x)
unfolding turn
conj_turn zero x = refl
conj_turn (suc n) x =
    let e : 3 * suc n ≡ suc (suc (suc (3 * n))) = omega arith in
    conj_i (turn n x) ∙ ap (λ (y : Gauss). i_g (i_g (i_g y))) (conj_turn n x) ∙ sym (ap (λ (k : ℕ). turn k (conj_g x)) e)

pub conj_turns : (m n : ℕ) (x : Gauss) → (m + n) % 4 ≡ 0 → conj_g (turn m x) ≡ turn n (conj_g x)
conj_turns m n x h = conj_turn m x ∙ turn_like (3 * m) n (conj_g x) (omega arith)

-- ---- real and imaginary parts
pub twice_re_lem : (x : Gauss) → twice_re x ≡ add_g x (conj_g x)
unfolding twice_re add_c conj_c
twice_re_lem x = same refl (sym (add_neg x.im))

pub times_neg : (x y : Gauss) → mul_g x (neg_g y) ≡ neg_g (mul_g x y)
times_neg x y = same (simp (parts, products)) (simp (parts, products))

pub turn_swap : (m n : ℕ) (x : Gauss) → turn n (turn m x) ≡ turn m (turn n x)
turn_swap m n x = let e : n + m ≡ m + n = omega arith in sym (turn_plus n m x) ∙ ap (λ (k : ℕ). turn k x) e ∙ turn_plus m n x
