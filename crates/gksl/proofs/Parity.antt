-- SPDX-FileCopyrightText: 2026 The PPVM Authors
-- SPDX-License-Identifier: Apache-2.0

-- A turn and its opposite, added or subtracted: by parity. Assumes nothing.
use mathlib.Core.Path.{◌≡◌, refl, sym, ap, ap₂, ◌∙◌}
use Prim.Native.Nat.{ℕ, zero, suc, ◌+◌, ◌*◌, ◌%◌, ◌<◌}
use native.Mathlib.Omega.{arith}
use lib.IntN.{ℤ}
use Rattle.number.specs.Numbers.{unit_c}
use Rattle.number.specs.Whole.{whole}
use Rattle.gksl.specs.Gauss.{Gauss, zero_g, add_g, neg_g, mul_g, conj_g, i_g, turn}
use Rattle.gksl.specs.Operator.{Words}
use Rattle.gksl.proofs.GaussLaws.{twice_re, im_of, same, parts, turn_like, turn_mod, plus_zero, neg_plus}
use Rattle.gksl.proofs.WholeRules.{evenly, oddly}
use Rattle.number.proofs.WholeLaws.{cancels, products}
use Rattle.gksl.proofs.Totals.{total, Additive, additive_zero, total_one, total_none}

-- sign × z where the phase is even
unfoldable pub even_num : ℕ → Gauss → Gauss
even_num zero z = z
even_num (suc zero) z = zero_g
even_num (suc (suc zero)) z = neg_g z
even_num (suc (suc (suc n))) z = zero_g

-- the commutator's factor × z
unfoldable pub odd_num : ℕ → Gauss → Gauss
odd_num zero z = zero_g
odd_num (suc zero) z = neg_g (add_g z z)
odd_num (suc (suc zero)) z = zero_g
odd_num (suc (suc (suc n))) z = add_g z z

module _ (S : Words) (F : Gauss → S.Word → ℤ) (add : Additive S F) where
  pub total_evenly : (n : ℕ) (z : Gauss) (w : S.Word) → total S F (evenly S n z w) ≡ F (even_num n z) w
  unfolding evenly even_num
  total_evenly zero z w = total_one S F _
  total_evenly (suc zero) z w = total_none S F ∙ sym (additive_zero S add w)
  total_evenly (suc (suc zero)) z w = total_one S F _
  total_evenly (suc (suc (suc n))) z w = total_none S F ∙ sym (additive_zero S add w)

  pub total_oddly : (n : ℕ) (z : Gauss) (w : S.Word) → total S F (oddly S n z w) ≡ F (odd_num n z) w
  unfolding oddly odd_num
  total_oddly zero z w = total_none S F ∙ sym (additive_zero S add w)
  total_oddly (suc zero) z w = total_one S F _
  total_oddly (suc (suc zero)) z w = total_none S F ∙ sym (additive_zero S add w)
  total_oddly (suc (suc (suc n))) z w = total_one S F _

pub even_plus : (n : ℕ) (x y : Gauss) → even_num n (add_g x y) ≡ add_g (even_num n x) (even_num n y)
unfolding even_num
even_plus zero x y = refl
even_plus (suc zero) x y = sym (plus_zero zero_g)
even_plus (suc (suc zero)) x y = neg_plus x y
even_plus (suc (suc (suc n))) x y = sym (plus_zero zero_g)

pub odd_plus : (n : ℕ) (x y : Gauss) → odd_num n (add_g x y) ≡ add_g (odd_num n x) (odd_num n y)
unfolding odd_num
odd_plus zero x y = sym (plus_zero zero_g)
odd_plus (suc zero) x y = same (simp parts) (simp parts)
odd_plus (suc (suc zero)) x y = sym (plus_zero zero_g)
odd_plus (suc (suc (suc n))) x y = same (simp parts) (simp parts)

-- n is 0, 1, 2 or 3
pub four_cases : (P : ℕ → Type 0) → P 0 → P 1 → P 2 → P 3 → (n : ℕ) → n < 4 → P n
four_cases P a b c d zero h = a
four_cases P a b c d (suc zero) h = b
four_cases P a b c d (suc (suc zero)) h = c
four_cases P a b c d (suc (suc (suc zero))) h = d
four_cases P a b c d (suc (suc (suc (suc n)))) h = absurd (omega arith)

-- ---- at n below 4, the opposite turn being 3 n
even_at : (y : Gauss) (n : ℕ) → n < 4 → add_g (turn n y) (turn (3 * n) y) ≡ add_g (even_num n y) (even_num n y)
unfolding turn even_num
even_at y = four_cases (λ n. add_g (turn n y) (turn (3 * n) y) ≡ add_g (even_num n y) (even_num n y))
    refl
    (same (simp (parts, cancels)) (simp (parts, cancels)))
    (same (simp parts) (simp parts))
    (same (simp (parts, cancels)) (simp (parts, cancels)))

odd_at : (y : Gauss) (n : ℕ) → n < 4 → i_g (add_g (turn n y) (neg_g (turn (3 * n) y))) ≡ odd_num n y
unfolding turn odd_num
odd_at y = four_cases (λ n. i_g (add_g (turn n y) (neg_g (turn (3 * n) y))) ≡ odd_num n y)
    (same (simp (parts, cancels)) (simp (parts, cancels)))
    (same (simp parts) (simp parts))
    (same (simp (parts, cancels)) (simp (parts, cancels)))
    (same (simp parts) (simp parts))

-- twice the real part of (i^n - i^-n) y
im_at : (y : Gauss) (n : ℕ) → n < 4
    → add_g (add_g (turn n y) (neg_g (turn (3 * n) y))) (conj_g (add_g (turn n y) (neg_g (turn (3 * n) y)))) ≡ add_g (odd_num n (im_of y)) (odd_num n (im_of y))
unfolding turn odd_num
im_at y = four_cases (λ n. add_g (add_g (turn n y) (neg_g (turn (3 * n) y))) (conj_g (add_g (turn n y) (neg_g (turn (3 * n) y)))) ≡ add_g (odd_num n (im_of y)) (odd_num n (im_of y)))
    (same (simp (parts, cancels)) (simp (parts, cancels)))
    (same (simp parts) (simp (parts, cancels)))
    (same (simp (parts, cancels)) (simp (parts, cancels)))
    (same (simp parts) (simp (parts, cancels)))

-- ---- at any n and m that are opposite modulo 4
module _ (n m : ℕ) (y : Gauss) (h : (n + m) % 4 ≡ 0) where
  there : turn n y ≡ turn (n % 4) y
  there = turn_mod n y

  back : turn m y ≡ turn (3 * (n % 4)) y
  back = turn_like m (3 * (n % 4)) y (omega arith)

  pub even_law : add_g (turn n y) (turn m y) ≡ add_g (even_num (n % 4) y) (even_num (n % 4) y)
  even_law = ap₂ add_g there back ∙ even_at y (n % 4) (omega arith)

  pub odd_law : i_g (add_g (turn n y) (neg_g (turn m y))) ≡ odd_num (n % 4) y
  odd_law = ap i_g (ap₂ add_g there (ap neg_g back)) ∙ odd_at y (n % 4) (omega arith)

  pub im_law : add_g (add_g (turn n y) (neg_g (turn m y))) (conj_g (add_g (turn n y) (neg_g (turn m y)))) ≡ add_g (odd_num (n % 4) (im_of y)) (odd_num (n % 4) (im_of y))
  im_law = ap (λ (z : Gauss). add_g z (conj_g z)) (ap₂ add_g there (ap neg_g back)) ∙ im_at y (n % 4) (omega arith)

-- opposites go through
pub even_neg : (n : ℕ) (x : Gauss) → even_num n (neg_g x) ≡ neg_g (even_num n x)
unfolding even_num
even_neg zero x = refl
even_neg (suc zero) x = same (simp parts) (simp parts)
even_neg (suc (suc zero)) x = refl
even_neg (suc (suc (suc n))) x = same (simp parts) (simp parts)

pub odd_neg : (n : ℕ) (x : Gauss) → odd_num n (neg_g x) ≡ neg_g (odd_num n x)
unfolding odd_num
odd_neg zero x = same (simp parts) (simp parts)
odd_neg (suc zero) x = same (simp parts) (simp parts)
odd_neg (suc (suc zero)) x = same (simp parts) (simp parts)
odd_neg (suc (suc (suc n))) x = same (simp parts) (simp parts)

pub even_twice : (n : ℕ) (x : Gauss) → even_num n (twice_re x) ≡ twice_re (even_num n x)
unfolding even_num
even_twice zero x = refl
even_twice (suc zero) x = same (simp parts) (simp parts)
even_twice (suc (suc zero)) x = same (simp parts) (simp parts)
even_twice (suc (suc (suc n))) x = same (simp parts) (simp parts)

-- times i^n is a turn
unit_at : (x : Gauss) (n : ℕ) → n < 4 → mul_g x (unit_c whole n) ≡ turn n x
unfolding turn unit_c
unit_at x = four_cases (λ n. mul_g x (unit_c whole n) ≡ turn n x)
    (same (simp (parts, products)) (simp (parts, products)))
    (same (simp (parts, products)) (simp (parts, products)))
    (same (simp (parts, products)) (simp (parts, products)))
    (same (simp (parts, products)) (simp (parts, products)))

pub unit_turn : (n : ℕ) (x : Gauss) → mul_g x (unit_c whole (n % 4)) ≡ turn n x
unit_turn n x = unit_at x (n % 4) (omega arith) ∙ sym (turn_mod n x)
