-- SPDX-FileCopyrightText: 2026 The PPVM Authors
-- SPDX-License-Identifier: Apache-2.0

-- The number of one term: what the rules write against the exact bracket. Assumes nothing.
use mathlib.Core.Path.{◌≡◌, refl, sym, ap, ap₂, ◌∙◌}
use Prim.Native.Nat.{ℕ, ◌+◌, ◌%◌}
use Rattle.gksl.specs.Gauss.{Gauss, zero_g, add_g, neg_g, mul_g, conj_g, turn}
use Rattle.gksl.proofs.GaussLaws.{twice_re, im_of, same, parts, times_comm, turn_times, turn_plus, turn_swap, turn_like, neg_plus, conj_neg, twice_re_lem}
use Rattle.number.proofs.WholeLaws.{cancels}
use Rattle.gksl.proofs.Parity.{even_num, odd_num, even_law, im_law, even_neg, odd_neg, even_twice}
use Rattle.gksl.proofs.ExactTerms.{bracket, weight}

-- a number times k, as the rules write it
pub weight_is : (k x y : Gauss) → mul_g (mul_g (conj_g x) y) k ≡ weight k x y
weight_is k x y = times_comm (mul_g (conj_g x) y) k

pub weight_turn : (q : ℕ) (k x y : Gauss) → mul_g (turn q (mul_g (conj_g x) y)) k ≡ turn q (weight k x y)
weight_turn q k x y = turn_times q (mul_g (conj_g x) y) k ∙ ap (turn q) (weight_is k x y)

onward : (q n : ℕ) (x : Gauss) → turn n (turn q x) ≡ turn (q + n) x
onward q n x = turn_swap q n x ∙ sym (turn_plus q n x)

pub twice_plus : (x y : Gauss) → twice_re (add_g x y) ≡ add_g (twice_re x) (twice_re y)
twice_plus x y = same (simp parts) (simp parts)

pub twice_neg : (x : Gauss) → twice_re (neg_g x) ≡ neg_g (twice_re x)
twice_neg x = same (simp parts) (simp parts)

pub im_plus : (x y : Gauss) → im_of (add_g x y) ≡ add_g (im_of x) (im_of y)
im_plus x y = same (simp parts) (simp parts)

drop_last : (a b : Gauss) → add_g (add_g a a) (add_g b (neg_g a)) ≡ add_g a b
drop_last a b = same (simp (parts, cancels)) (simp (parts, cancels))

drop_first : (a b : Gauss) → add_g (add_g a a) (add_g (neg_g a) b) ≡ add_g a b
drop_first a b = same (simp (parts, cancels)) (simp (parts, cancels))

opposite_double : (d : Gauss) → add_g (neg_g d) (conj_g (neg_g d)) ≡ neg_g (add_g d (conj_g d))
opposite_double d = ap (add_g (neg_g d)) (conj_neg d) ∙ sym (neg_plus d (conj_g d))

-- q is the phase of u v, n and m those of (u v) with p and of p with (u v)
module _ (s q n m : ℕ) (x : Gauss) (h : (n + m) % 4 ≡ 0) where
  -- the anticommutator
  pub anti : add_g (neg_g (turn (q + n) x)) (neg_g (turn (q + m) x)) ≡ add_g (even_num (n % 4) (neg_g (turn q x))) (even_num (n % 4) (neg_g (turn q x)))
  anti =
      sym (neg_plus _ _)
      ∙ ap neg_g (ap₂ add_g (sym (onward q n x)) (sym (onward q m x)) ∙ even_law n m (turn q x) h)
      ∙ neg_plus _ _
      ∙ sym (ap₂ add_g (even_neg (n % 4) (turn q x)) (even_neg (n % 4) (turn q x)))

  pub general_number : bracket s (q + n) (q + m) x
      ≡ add_g (add_g (turn s x) (turn s x)) (add_g (even_num (n % 4) (neg_g (turn q x))) (even_num (n % 4) (neg_g (turn q x))))
  general_number = ap (add_g (add_g (turn s x) (turn s x))) anti

  pub both_number : add_g (bracket s (q + n) (q + m) x) (conj_g (bracket s (q + n) (q + m) x))
      ≡ add_g (add_g (twice_re (turn s x)) (twice_re (turn s x))) (add_g (even_num (n % 4) (neg_g (twice_re (turn q x)))) (even_num (n % 4) (neg_g (twice_re (turn q x)))))
  both_number =
      sym (twice_re_lem _)
      ∙ ap twice_re general_number
      ∙ simp (twice_plus)
      (ap₂ add_g refl (ap₂ add_g inside inside))
    where
      inside : twice_re (even_num (n % 4) (neg_g (turn q x))) ≡ even_num (n % 4) (neg_g (twice_re (turn q x)))
      inside = sym (even_twice (n % 4) (neg_g (turn q x))) ∙ ap (even_num (n % 4)) (twice_neg (turn q x))

  -- n and m apart, the imaginary part
  apart : add_g (add_g (turn (q + n) x) (neg_g (turn (q + m) x))) (conj_g (add_g (turn (q + n) x) (neg_g (turn (q + m) x))))
      ≡ add_g (odd_num (n % 4) (im_of (turn q x))) (odd_num (n % 4) (im_of (turn q x)))
  apart = ap (λ (z : Gauss). add_g z (conj_g z)) (ap₂ add_g (sym (onward q n x)) (ap neg_g (sym (onward q m x)))) ∙ im_law n m (turn q x) h

  -- p commutes with the right word
  pub left_number : s % 4 ≡ (q + n) % 4
      → add_g (bracket s (q + n) (q + m) x) (conj_g (bracket s (q + n) (q + m) x)) ≡ add_g (odd_num (n % 4) (im_of (turn q x))) (odd_num (n % 4) (im_of (turn q x)))
  left_number e =
      ap (λ (z : Gauss). add_g z (conj_g z)) (ap (λ (z : Gauss). add_g (add_g z z) (add_g (neg_g (turn (q + n) x)) (neg_g (turn (q + m) x)))) (turn_like s (q + n) x e) ∙ drop_first _ _)
      ∙ apart

  -- p commutes with the left word
  pub right_number : s % 4 ≡ (q + m) % 4
      → add_g (bracket s (q + n) (q + m) x) (conj_g (bracket s (q + n) (q + m) x)) ≡ add_g (odd_num (n % 4) (neg_g (im_of (turn q x)))) (odd_num (n % 4) (neg_g (im_of (turn q x))))
  right_number e =
      ap (λ (z : Gauss). add_g z (conj_g z))
      (ap (λ (z : Gauss). add_g (add_g z z) (add_g (neg_g (turn (q + n) x)) (neg_g (turn (q + m) x)))) (turn_like s (q + m) x e) ∙ drop_last _ _ ∙ flip _ _)
      ∙ opposite_double _
      ∙ ap neg_g apart
      ∙ neg_plus _ _
      ∙ sym (ap₂ add_g (odd_neg (n % 4) (im_of (turn q x))) (odd_neg (n % 4) (im_of (turn q x))))
    where
      flip : (a b : Gauss) → add_g a (neg_g b) ≡ neg_g (add_g b (neg_g a))
      flip a b = same (simp parts) (simp parts)

  -- p commutes with both
  pub skip_number : s % 4 ≡ (q + n) % 4 → s % 4 ≡ (q + m) % 4 → bracket s (q + n) (q + m) x ≡ zero_g
  skip_number e f =
      ap₂ (λ (a b : Gauss). add_g (add_g (turn s x) (turn s x)) (add_g (neg_g a) (neg_g b))) (sym (turn_like s (q + n) x e)) (sym (turn_like s (q + m) x f))
      ∙ all_gone (turn s x)
    where
      all_gone : (a : Gauss) → add_g (add_g a a) (add_g (neg_g a) (neg_g a)) ≡ zero_g
      all_gone a = same (simp (parts, cancels)) (simp (parts, cancels))
