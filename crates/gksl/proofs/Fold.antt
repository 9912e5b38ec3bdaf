-- SPDX-FileCopyrightText: 2026 The PPVM Authors
-- SPDX-License-Identifier: Apache-2.0

-- A pair of operators with its conjugate: the exact sum, folded. Assumes nothing.
use mathlib.Core.Path.{◌≡◌, sym, ap, ap₂, ◌∙◌}
use Prim.Native.Nat.{ℕ, ◌+◌, ◌%◌}
use lib.IntN.{ℤ}
use native.Mathlib.Omega.{arith}
use Rattle.number.specs.Whole.{◌⊞◌}
use Rattle.gksl.specs.Gauss.{Gauss, add_g, neg_g, mul_g, conj_g}
use Rattle.gksl.specs.Operator.{Words, Op}
use Rattle.gksl.specs.Rules.{through, onto}
use Rattle.gksl.specs.Generator.{dissipator2}
use Rattle.gksl.proofs.GaussLaws.{times_comm, conj_times, conj_conj, conj_plus, conj_neg, conj_turns, plus_comm}
use Rattle.gksl.proofs.Totals.{total, both, Additive, both_add, both_cong, both_swap}
use Rattle.gksl.proofs.WordLaws.{Laws, before, after, word_reverse, through_reverse, before_reverse, after_reverse}
use Rattle.gksl.proofs.ExactTerms.{bracket, weight, exact, exact_total}

weight_conj : (k x y : Gauss) → weight (conj_g k) y x ≡ conj_g (weight k x y)
weight_conj k x y = ap (mul_g (conj_g k)) (times_comm (conj_g y) x ∙ ap (λ (z : Gauss). mul_g z (conj_g y)) (sym (conj_conj x)) ∙ sym (conj_times (conj_g x) y)) ∙ sym (conj_times k (mul_g (conj_g x) y))

-- the conjugate of a bracket, the turns going back
bracket_conj : (s l r s' l' r' : ℕ) (x : Gauss) → (s + s') % 4 ≡ 0 → (l + r') % 4 ≡ 0 → (r + l') % 4 ≡ 0
    → conj_g (bracket s l r x) ≡ bracket s' l' r' (conj_g x)
bracket_conj s l r s' l' r' x a b c =
    simp (conj_plus, conj_neg)
    (ap₂ add_g (ap₂ add_g (conj_turns s s' x a) (conj_turns s s' x a))
    (ap₂ add_g (ap neg_g (conj_turns l r' x b)) (ap neg_g (conj_turns r l' x c)) ∙ plus_comm _ _))

module _ (S : Words) (L : Laws S) where
  pub exact_conj : (k : Gauss) (p : S.Word) (x : Gauss) (u : S.Word) (y : Gauss) (v : S.Word)
      → exact S (conj_g k) p y v x u ≡ conj_g (exact S k p x u y v)
  exact_conj k p x u y v =
      ap (bracket (through S v p u) (before S v u p) (after S v u p)) (weight_conj k x y)
      ∙ sym (bracket_conj (through S u p v) (before S u v p) (after S u v p) (through S v p u) (before S v u p) (after S v u p) (weight k x y)
      (through_reverse S L u v p)
      (let e = after_reverse S L u v p in omega arith)
      (let e = before_reverse S L u v p in omega arith))

  module _ (F : Gauss → S.Word → ℤ) (add : Additive S F) where
    pub folded : (k : Gauss) (A B : Op S) (p : S.Word)
        → total S F (dissipator2 S k A B p) ⊞ total S F (dissipator2 S (conj_g k) B A p)
        ≡ both S (λ x u y v. F (add_g (exact S k p x u y v) (conj_g (exact S k p x u y v))) (onto S u p v)) A B
    folded k A B p =
        ap₂ ◌⊞◌ (exact_total S L F add k A B p) (exact_total S L F add (conj_g k) B A p ∙ both_swap S _ B A)
        ∙ sym (both_add S _ _ A B)
        ∙ both_cong S _ _ A B (λ x u y v.
        ap (λ (z : ℤ). F (exact S k p x u y v) (onto S u p v) ⊞ z) (ap₂ F (exact_conj k p x u y v) (word_reverse S L u v p))
        ∙ sym (add.plus _ _ _))
