-- SPDX-FileCopyrightText: 2026 The PPVM Authors
-- SPDX-License-Identifier: Apache-2.0

-- Integers by a sign and a size: sum, product, order and size. Assumes nothing.
use mathlib.Core.Path.{◌≡◌, refl, sym, ap, ◌∙◌}
use Prim.Native.Nat.{ℕ, zero, suc, ◌+◌, ◌-◌, ◌*◌, ◌≤◌, ◌<◌}
use native.Mathlib.Nat.{le_refl, le_trans, le_of_eq, zero-lt-suc, zero-mul, mul-zero, zero-add}
use native.Mathlib.Omega.{arith}
use mathlib.Core.Bool.{Bool, true, false, not, ◌&&◌, ◌||◌, cond}
use lib.IntN.{ℤ, pos, negsuc, neg_ℤ, nat_abs, sub_ℕ, ◌+ℤ◌, ◌-ℤ◌, ◌*ℤ◌, neg_ℤ-neg_ℤ, neg_ℤ-+ℤ, +ℤ_comm, pos-ne-negsuc}
use lib.Signed.{lt_z, le_z}
use lib.Dec.{T, ltb, eqb, ltb→lt, lt→ltb, eqb→eq, leb-suc-zero, leb-suc-suc, eqb-zero-suc, eqb-suc-zero, eqb-suc-suc}
use lib.Ieee.{unlike, below, level}
use lib.Ieee.Fits.{eq→eqb}
use Rattle.number.specs.Exact.{signed, eq_z}
use Rattle.number.proofs.Tests.{same_test, yes, leb_is}

-- ---- sizes

pub abs_signed : (s : Bool) (n : ℕ) → nat_abs (signed s n) ≡ n
abs_signed false n = refl
abs_signed true zero = refl
abs_signed true (suc n) = refl

pub abs_neg : (z : ℤ) → nat_abs (neg_ℤ z) ≡ nat_abs z
abs_neg (pos zero) = refl
abs_neg (pos (suc n)) = refl
abs_neg (negsuc n) = refl

abs_sub : (a b : ℕ) → nat_abs (sub_ℕ a b) ≤ a + b
abs_sub a b = go (ltb a b) (ltb→lt a b)
  where
    go : (t : Bool) → (T t → a < b) → nat_abs (cond t (negsuc (b - suc a)) (pos (a - b))) ≤ a + b
    go true h = let l = h tt in omega arith
    go false h = omega arith

pub abs_add : (z w : ℤ) → nat_abs (z +ℤ w) ≤ nat_abs z + nat_abs w
abs_add (pos a) (pos b) = le_refl (a + b)
abs_add (pos a) (negsuc b) = abs_sub a (suc b)
abs_add (negsuc a) (pos b) = le_trans (abs_sub b (suc a)) (omega arith)
abs_add (negsuc a) (negsuc b) = omega arith

pub abs_minus : (z w : ℤ) → nat_abs (z -ℤ w) ≤ nat_abs z + nat_abs w
abs_minus z w = le_trans (abs_add z (neg_ℤ w)) (le_of_eq (ap (λ (x : ℕ). nat_abs z + x) (abs_neg w)))

pub abs_mul : (z w : ℤ) → nat_abs (z *ℤ w) ≡ nat_abs z * nat_abs w
abs_mul (pos a) (pos b) = refl
abs_mul (pos a) (negsuc b) = abs_signed true (a * suc b)
abs_mul (negsuc a) (pos b) = abs_signed true (suc a * b)
abs_mul (negsuc a) (negsuc b) = refl

pub abs_zero : (z : ℤ) → nat_abs z ≡ 0 → z ≡ pos 0
abs_zero (pos n) h = ap pos h
abs_zero (negsuc n) h = absurd (omega arith)

-- ---- a sign and a size

-- an integer other than zero has one of each
pub signed_one : (s : Bool) (a : ℕ) (t : Bool) (b : ℕ) → signed s a ≡ signed t b → (signed s a ≡ pos 0 → ⊥) → (s ≡ t) × (a ≡ b)
signed_one s a t b e nz = (signs s a t b e nz, sym (abs_signed s a) ∙ ap nat_abs e ∙ abs_signed t b)
  where
    signs : (s : Bool) (a : ℕ) (t : Bool) (b : ℕ) → signed s a ≡ signed t b → (signed s a ≡ pos 0 → ⊥) → s ≡ t
    signs false a false b e nz = refl
    signs true a true b e nz = refl
    signs false a true zero e nz = absurd (nz e)
    signs false a true (suc b) e nz = absurd (pos-ne-negsuc a b e)
    signs true zero false b e nz = absurd (nz refl)
    signs true (suc a) false b e nz = absurd (pos-ne-negsuc b a (sym e))

pub neg_signed : (s : Bool) (n : ℕ) → signed (not s) n ≡ neg_ℤ (signed s n)
neg_signed false n = refl
neg_signed true n = sym (neg_ℤ-neg_ℤ (pos n))

pub mul_signed : (s : Bool) (a : ℕ) (t : Bool) (b : ℕ) → signed (unlike s t) (a * b) ≡ signed s a *ℤ signed t b
mul_signed false a false b = refl
mul_signed false a true zero = ap (λ (x : ℕ). neg_ℤ (pos x)) (mul-zero a) ∙ sym (ap pos (mul-zero a))
mul_signed false a true (suc b) = refl
mul_signed true zero false b = ap (λ (x : ℕ). neg_ℤ (pos x)) (zero-mul b) ∙ sym (ap pos (zero-mul b))
mul_signed true (suc a) false b = refl
mul_signed true zero true zero = refl
mul_signed true zero true (suc b) = ap pos (zero-mul (suc b)) ∙ sym (ap (λ (x : ℕ). neg_ℤ (pos x)) (zero-mul (suc b)))
mul_signed true (suc a) true zero = ap pos (mul-zero (suc a)) ∙ sym (ap (λ (x : ℕ). neg_ℤ (pos x)) (mul-zero (suc a)))
mul_signed true (suc a) true (suc b) = refl

-- a sum by the signs: of like ones the sizes are added, of unlike ones the smaller size is taken from the larger
pub add_like : (s : Bool) (a b : ℕ) → signed s (a + b) ≡ signed s a +ℤ signed s b
add_like false a b = refl
add_like true a b = neg_ℤ-+ℤ (pos a) (pos b)

minus : (a b : ℕ) → b ≤ a → pos (a - b) ≡ pos a +ℤ neg_ℤ (pos b)
minus a zero h = ap pos (omega arith)
minus a (suc b) h = go (ltb a (suc b)) (ltb→lt a (suc b))
  where
    go : (t : Bool) → (T t → a < suc b) → pos (a - suc b) ≡ cond t (negsuc (suc b - suc a)) (pos (a - suc b))
    go true k = absurd (let l = k tt in omega arith)
    go false k = refl

pub add_unlike : (s : Bool) (a b : ℕ) → b ≤ a → signed s (a - b) ≡ signed s a +ℤ signed (not s) b
add_unlike false a b h = minus a b h
add_unlike true a b h = ap neg_ℤ (minus a b h) ∙ neg_ℤ-+ℤ (pos a) (neg_ℤ (pos b)) ∙ ap (λ (z : ℤ). neg_ℤ (pos a) +ℤ z) (neg_ℤ-neg_ℤ (pos b))

pub add_unlike' : (s : Bool) (a b : ℕ) → a ≤ b → signed (not s) (b - a) ≡ signed s a +ℤ signed (not s) b
add_unlike' s a b h = add_unlike (not s) b a h ∙ ap (λ (t : Bool). signed (not s) b +ℤ signed t a) (not_not s) ∙ +ℤ_comm (signed (not s) b) (signed s a)
  where
    not_not : (s : Bool) → not (not s) ≡ s
    not_not true = refl
    not_not false = refl

-- ---- comparisons

pub below_signed : (s : Bool) (a : ℕ) (t : Bool) (b : ℕ) → below s a t b ≡ lt_z (signed s a) (signed t b)
below_signed false a false b = refl
below_signed false a true zero = sym (leb-suc-zero a)
below_signed false a true (suc b) = refl
below_signed true zero false b = ap (ltb 0) (zero-add b)
below_signed true (suc a) false b = yes (lt→ltb 0 (suc a + b) (omega arith))
below_signed true zero true zero = refl
below_signed true zero true (suc b) = leb-suc-zero (suc b)
below_signed true (suc a) true zero = yes (lt→ltb 0 (suc a) (zero-lt-suc a))
below_signed true (suc a) true (suc b) = leb-suc-suc (suc b) a

and_true : (b : Bool) → (b && true) ≡ b
and_true true = refl
and_true false = refl

and_self : (b : Bool) → (b && b) ≡ b
and_self true = refl
and_self false = refl

and_false : (b : Bool) → (b && false) ≡ false
and_false true = refl
and_false false = refl

pub level_signed : (s : Bool) (a : ℕ) (t : Bool) (b : ℕ) → level s a t b ≡ eq_z (signed s a) (signed t b)
level_signed false a false b = and_true (eqb a b)
level_signed false a true zero = and_self (eqb a 0)
level_signed false zero true (suc b) = and_true (eqb 0 (suc b)) ∙ eqb-zero-suc b
level_signed false (suc a) true (suc b) = ap (λ (t : Bool). eqb (suc a) (suc b) && t) (eqb-suc-zero a) ∙ and_false (eqb (suc a) (suc b))
level_signed true zero false b = and_true (eqb 0 b)
level_signed true (suc a) false b = ap (λ (t : Bool). eqb (suc a) b && t) (eqb-suc-zero a) ∙ and_false (eqb (suc a) b)
level_signed true zero true zero = refl
level_signed true zero true (suc b) = and_true (eqb 0 (suc b)) ∙ eqb-zero-suc b
level_signed true (suc a) true zero = and_true (eqb (suc a) 0) ∙ eqb-suc-zero a
level_signed true (suc a) true (suc b) = and_true (eqb (suc a) (suc b)) ∙ eqb-suc-suc a b

-- at most is less or equal
pub le_z_is : (z w : ℤ) → le_z z w ≡ (lt_z z w || eq_z z w)
le_z_is (pos a) (pos b) = leb_is a b
le_z_is (pos a) (negsuc b) = refl
le_z_is (negsuc a) (pos b) = refl
le_z_is (negsuc a) (negsuc b) = leb_is b a ∙ ap (λ (t : Bool). ltb b a || t) (same_test (eqb b a) (eqb a b) (λ t. eq→eqb (sym (eqb→eq b a t))) (λ t. eq→eqb (sym (eqb→eq a b t))))
