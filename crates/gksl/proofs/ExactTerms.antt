-- SPDX-FileCopyrightText: 2026 The PPVM Authors
-- SPDX-License-Identifier: Apache-2.0

-- The exact generator, term by term. Assumes nothing.
use mathlib.Core.Path.{◌≡◌, sym, ap, ap₂, ◌∙◌}
use Prim.Native.Nat.{ℕ, ◌+◌}
use lib.IntN.{ℤ}
use Rattle.number.specs.Whole.{◌⊞◌}
use Rattle.gksl.specs.Gauss.{Gauss, one_g, add_g, neg_g, mul_g, conj_g, turn}
use Rattle.gksl.specs.Operator.{Words, Op}
use Rattle.gksl.specs.Rules.{through, onto}
use Rattle.gksl.specs.Generator.{dissipator2}
use Rattle.gksl.proofs.GaussLaws.{times_comm, times_one, times_neg, turn_times, times_turn, turn_plus, turn_swap}
use Rattle.gksl.proofs.Totals.{total, both, Additive, total_one, total_append, total_product, total_adjoint, total_scale, total_minus, both_four, both_cong}
use Rattle.gksl.proofs.WordLaws.{Laws, before, after, word_before, word_after}

-- 2 i^s x - (i^l x + i^r x)
abbrev pub bracket : ℕ → ℕ → ℕ → Gauss → Gauss
bracket s l r x = add_g (add_g (turn s x) (turn s x)) (add_g (neg_g (turn l x)) (neg_g (turn r x)))

-- the number of the terms x u on the left and y v on the right
abbrev pub weight : Gauss → Gauss → Gauss → Gauss
weight k x y = mul_g k (mul_g (conj_g x) y)

abbrev pub exact : (S : Words) → Gauss → S.Word → Gauss → S.Word → Gauss → S.Word → Gauss
exact S k p x u y v = bracket (through S u p v) (before S u v p) (after S u v p) (weight k x y)

-- ---- the three numbers of a term
number_through : (k x y : Gauss) (m n : ℕ) → mul_g k (turn n (mul_g (turn m (mul_g (conj_g x) one_g)) y)) ≡ turn (m + n) (weight k x y)
number_through k x y m n = simp (times_one, turn_times, times_turn, turn_plus) (turn_swap m n _)

number_before : (k x y : Gauss) (m n : ℕ) → mul_g k (neg_g (turn n (mul_g (turn m (mul_g (conj_g x) y)) one_g))) ≡ neg_g (turn (m + n) (weight k x y))
number_before k x y m n = simp (times_one, times_turn, turn_plus, times_neg) (ap neg_g (turn_swap m n _))

number_after : (k x y : Gauss) (m n : ℕ) → mul_g k (neg_g (turn n (mul_g one_g (turn m (mul_g (conj_g x) y))))) ≡ neg_g (turn (m + n) (weight k x y))
number_after k x y m n = simp (times_comm one_g, times_one, times_turn, turn_plus, times_neg) (ap neg_g (turn_swap m n _))

module _ (S : Words) (L : Laws S) (F : Gauss → S.Word → ℤ) (add : Additive S F) where
  -- four numbers onto one word
  pub gathered : (a b c d : Gauss) (w : S.Word) → F (add_g (add_g a b) (add_g c d)) w ≡ (F a w ⊞ F b w) ⊞ (F c w ⊞ F d w)
  gathered a b c d w = add.plus (add_g a b) (add_g c d) w ∙ ap₂ ◌⊞◌ (add.plus a b w) (add.plus c d w)

  pub exact_total : (k : Gauss) (A B : Op S) (p : S.Word)
      → total S F (dissipator2 S k A B p) ≡ both S (λ x u y v. F (exact S k p x u y v) (onto S u p v)) A B
  unfolding dissipator2
  exact_total k A B p = simp (total_scale S, total_append S, total_minus S, total_product S, total_adjoint S, total_one S)
      (sym (both_four S _ _ _ _ A B)
      ∙ both_cong S _ _ A B (λ x u y v.
      ap₂ ◌⊞◌
      (ap₂ ◌⊞◌ (ap (λ (z : Gauss). F z (onto S u p v)) (number_through k x y (S.phase u p) (S.phase (S.mul u p) v))) (ap (λ (z : Gauss). F z (onto S u p v)) (number_through k x y (S.phase u p) (S.phase (S.mul u p) v))))
      (ap₂ ◌⊞◌ (ap₂ F (number_before k x y (S.phase u v) (S.phase (S.mul u v) p)) (word_before S L u v p)) (ap₂ F (number_after k x y (S.phase u v) (S.phase p (S.mul u v))) (word_after S L u v p)))
      ∙ sym (gathered _ _ _ _ (onto S u p v))))
