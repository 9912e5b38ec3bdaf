-- SPDX-FileCopyrightText: 2026 The PPVM Authors
-- SPDX-License-Identifier: Apache-2.0

-- The rules against the exact generator, each doubled. Assumes nothing.
use mathlib.Core.Path.{◌≡◌, sym, ap, ap₂, ◌∙◌}
use mathlib.Core.List.{[], ◌∷◌}
use Prim.Native.Nat.{ℕ, ◌%◌}
use lib.IntN.{ℤ, pos}
use Rattle.number.specs.Whole.{◌⊞◌}
use Rattle.gksl.specs.Gauss.{Gauss, add_g, neg_g, mul_g, conj_g, turn}
use Rattle.gksl.specs.Operator.{Words, Op, product, adjoint}
use Rattle.gksl.specs.Rules.{through, onto}
use Rattle.gksl.specs.Generator.{dissipator2}
use Rattle.gksl.proofs.GaussLaws.{twice_re, im_of, plus_times, neg_plus}
use Rattle.gksl.proofs.WholeRules.{gather, evenly, oddly, general, sandwich, both_sided, right_only, left_only}
use Rattle.number.proofs.WholeLaws.{swap_inner}
use Rattle.gksl.proofs.Totals.{total, both, Additive, Same, Every, additive_zero, total_append, total_pairs, total_gather, total_product, total_adjoint, total_cong, total_zero, both_add, both_four, both_cong, both_cong_at}
use Rattle.gksl.proofs.WordLaws.{Laws, word_before, through_after, through_before}
use Rattle.gksl.proofs.ExactTerms.{weight, exact, exact_total, gathered}
use Rattle.gksl.proofs.Parity.{even_num, odd_num, even_plus, odd_plus, total_evenly, total_oddly}
use Rattle.gksl.proofs.Fold.{folded}
use Rattle.gksl.proofs.TermNumbers.{weight_is, weight_turn, twice_plus, im_plus, general_number, both_number, left_number, right_number, skip_number}

-- p commutes with the word
abbrev pub Clear : (S : Words) → S.Word → S.Word → Type 0
Clear S p u = S.phase u p % 2 ≡ 0

any : {S : Words} (A : Op S) → Every S (λ u. Unit {0}) A
any [] = tt
any (t ∷ A) = (tt, any A)

module _ (S : Words) (L : Laws S) (F : Gauss → S.Word → ℤ) (add : Additive S F) where
  -- a sum over M, as a double sum over A and B
  module _ (h : ℕ → Gauss → S.Word → Op S) (N : ℕ → Gauss → Gauss) (f : Gauss → Gauss)
      (is : (n : ℕ) (z : Gauss) (w : S.Word) → total S F (h n z w) ≡ F (N n z) w)
      (N-plus : (n : ℕ) (x y : Gauss) → N n (add_g x y) ≡ add_g (N n x) (N n y))
      (f-plus : (x y : Gauss) → f (add_g x y) ≡ add_g (f x) (f y)) where
    spread : (A B M : Op S) (p : S.Word) → Same S M (product S (adjoint S A) B)
        → total S F (gather S (λ c. h (S.phase c.word p % 4) (f c.num) (S.mul c.word p)) M)
        ≡ both S (λ x u y v. F (N (S.phase (S.mul u v) p % 4) (f (turn (S.phase u v) (mul_g (conj_g x) y)))) (onto S u p v)) A B
    spread A B M p same =
        total_gather S F _ M
        ∙ total_cong S _ _ M (λ x u. is (S.phase u p % 4) (f x) (S.mul u p))
        ∙ same (λ x u. F (N (S.phase u p % 4) (f x)) (S.mul u p)) (record { plus = λ x y u. ap (λ (z : Gauss). F z (S.mul u p)) (ap (N (S.phase u p % 4)) (f-plus x y) ∙ N-plus _ _ _) ∙ add.plus _ _ _ })
        ∙ total_product S _ (adjoint S A) B
        ∙ total_adjoint S _ A
        ∙ both_cong S _ _ A B (λ x u y v. ap (F (N (S.phase (S.mul u v) p % 4) (f (turn (S.phase u v) (mul_g (conj_g x) y))))) (word_before S L u v p))

  -- a rule of two lists, doubled
  twofold : (X Y Z : Gauss → S.Word → Gauss → S.Word → Gauss) (A B : Op S) (p : S.Word) (a b : ℤ)
      → a ≡ both S (λ x u y v. F (X x u y v) (onto S u p v)) A B
      → b ≡ both S (λ x u y v. F (Y x u y v) (onto S u p v)) A B
      → ((x : Gauss) (u : S.Word) (y : Gauss) (v : S.Word) → add_g (add_g (X x u y v) (X x u y v)) (add_g (Y x u y v) (Y x u y v)) ≡ Z x u y v)
      → (a ⊞ b) ⊞ (a ⊞ b) ≡ both S (λ x u y v. F (Z x u y v) (onto S u p v)) A B
  twofold X Y Z A B p a b ha hb h =
      swap_inner a b a b
      ∙ ap₂ (λ (s t : ℤ). (s ⊞ s) ⊞ (t ⊞ t)) ha hb
      ∙ sym (both_four S _ _ _ _ A B)
      ∙ both_cong S _ _ A B (λ x u y v. sym (gathered S L F add (X x u y v) (X x u y v) (Y x u y v) (Y x u y v) (onto S u p v)) ∙ ap (λ (z : Gauss). F z (onto S u p v)) (h x u y v))

  -- a rule of one list, doubled
  onefold : (Y Z : Gauss → S.Word → Gauss → S.Word → Gauss) (A B : Op S) (p : S.Word) (P Q : S.Word → Type 0) (b : ℤ)
      → Every S P A → Every S Q B
      → b ≡ both S (λ x u y v. F (Y x u y v) (onto S u p v)) A B
      → ((x : Gauss) (u : S.Word) (y : Gauss) (v : S.Word) → P u → Q v → add_g (Y x u y v) (Y x u y v) ≡ Z x u y v)
      → b ⊞ b ≡ both S (λ x u y v. F (Z x u y v) (onto S u p v)) A B
  onefold Y Z A B p P Q b eA eB hb h =
      ap (λ (t : ℤ). t ⊞ t) hb
      ∙ sym (both_add S _ _ A B)
      ∙ both_cong_at S P Q _ _ A B eA eB (λ x u y v pu qv. sym (add.plus (Y x u y v) (Y x u y v) (onto S u p v)) ∙ ap (λ (z : Gauss). F z (onto S u p v)) (h x u y v pu qv))

  module _ (k : Gauss) (A B M : Op S) (p : S.Word) (same : Same S M (product S (adjoint S A) B)) where
    -- a general jump, and a diagonal pair
    pub general_exact : total S F (general S k A B M p) ⊞ total S F (general S k A B M p) ≡ total S F (dissipator2 S k A B p)
    unfolding general sandwich
    general_exact =
        ap (λ (z : ℤ). z ⊞ z) (total_append S F _ _)
        ∙ twofold
        (λ x u y v. turn (through S u p v) (mul_g (mul_g (conj_g x) y) k))
        (λ x u y v. even_num (S.phase (S.mul u v) p % 4) (neg_g (mul_g (turn (S.phase u v) (mul_g (conj_g x) y)) k)))
        (λ x u y v. exact S k p x u y v)
        A B p _ _
        (total_pairs S F _ A B)
        (spread (evenly S) even_num (λ x. neg_g (mul_g x k)) (total_evenly S F add) even_plus (λ x y. ap neg_g (plus_times x y k) ∙ neg_plus _ _) A B M p same)
        (λ x u y v. simp (weight_is, weight_turn) (sym (general_number (through S u p v) (S.phase u v) (S.phase (S.mul u v) p) (S.phase p (S.mul u v)) (weight k x y) (L.opposite (S.mul u v) p))))
        ∙ sym (exact_total S L F add k A B p)

    -- a pair off the diagonal with its conjugate, p overlapping both sides
    pub both_exact : total S F (both_sided S k A B M p) ⊞ total S F (both_sided S k A B M p)
        ≡ total S F (dissipator2 S k A B p) ⊞ total S F (dissipator2 S (conj_g k) B A p)
    unfolding both_sided
    both_exact =
        ap (λ (z : ℤ). z ⊞ z) (total_append S F _ _)
        ∙ twofold
        (λ x u y v. twice_re (turn (through S u p v) (mul_g (mul_g (conj_g x) y) k)))
        (λ x u y v. even_num (S.phase (S.mul u v) p % 4) (neg_g (twice_re (mul_g (turn (S.phase u v) (mul_g (conj_g x) y)) k))))
        (λ x u y v. add_g (exact S k p x u y v) (conj_g (exact S k p x u y v)))
        A B p _ _
        (total_pairs S F _ A B)
        (spread (evenly S) even_num (λ x. neg_g (twice_re (mul_g x k))) (total_evenly S F add) even_plus (λ x y. ap neg_g (ap twice_re (plus_times x y k) ∙ twice_plus _ _) ∙ neg_plus _ _) A B M p same)
        (λ x u y v. simp (weight_is, weight_turn) (sym (both_number (through S u p v) (S.phase u v) (S.phase (S.mul u v) p) (S.phase p (S.mul u v)) (weight k x y) (L.opposite (S.mul u v) p))))
        ∙ sym (folded S L F add k A B p)

    -- p commutes with the left operator's words
    pub right_exact : Every S (Clear S p) A → total S F (right_only S k M p) ⊞ total S F (right_only S k M p)
        ≡ total S F (dissipator2 S k A B p) ⊞ total S F (dissipator2 S (conj_g k) B A p)
    unfolding right_only
    right_exact clear =
        onefold
        (λ x u y v. odd_num (S.phase (S.mul u v) p % 4) (neg_g (im_of (mul_g (turn (S.phase u v) (mul_g (conj_g x) y)) k))))
        (λ x u y v. add_g (exact S k p x u y v) (conj_g (exact S k p x u y v)))
        A B p (Clear S p) (λ v. Unit {0}) _ clear (any B)
        (spread (oddly S) odd_num (λ x. neg_g (im_of (mul_g x k))) (total_oddly S F add) odd_plus (λ x y. ap neg_g (ap im_of (plus_times x y k) ∙ im_plus _ _) ∙ neg_plus _ _) A B M p same)
        (λ x u y v c d. simp (weight_turn) (sym (right_number (through S u p v) (S.phase u v) (S.phase (S.mul u v) p) (S.phase p (S.mul u v)) (weight k x y) (L.opposite (S.mul u v) p) (through_after S L u v p c))))
        ∙ sym (folded S L F add k A B p)

    -- p commutes with the right operator's words
    pub left_exact : Every S (Clear S p) B → total S F (left_only S k M p) ⊞ total S F (left_only S k M p)
        ≡ total S F (dissipator2 S k A B p) ⊞ total S F (dissipator2 S (conj_g k) B A p)
    unfolding left_only
    left_exact clear =
        onefold
        (λ x u y v. odd_num (S.phase (S.mul u v) p % 4) (im_of (mul_g (turn (S.phase u v) (mul_g (conj_g x) y)) k)))
        (λ x u y v. add_g (exact S k p x u y v) (conj_g (exact S k p x u y v)))
        A B p (λ v. Unit {0}) (Clear S p) _ (any A) clear
        (spread (oddly S) odd_num (λ x. im_of (mul_g x k)) (total_oddly S F add) odd_plus (λ x y. ap im_of (plus_times x y k) ∙ im_plus _ _) A B M p same)
        (λ x u y v c d. simp (weight_turn) (sym (left_number (through S u p v) (S.phase u v) (S.phase (S.mul u v) p) (S.phase p (S.mul u v)) (weight k x y) (L.opposite (S.mul u v) p) (through_before S L u v p d))))
        ∙ sym (folded S L F add k A B p)

  -- p commutes with every word of both: nothing is added
  pub skip_exact : (k : Gauss) (A B : Op S) (p : S.Word) → Every S (Clear S p) A → Every S (Clear S p) B → total S F (dissipator2 S k A B p) ≡ pos 0
  skip_exact k A B p eA eB =
      exact_total S L F add k A B p
      ∙ both_cong_at S (Clear S p) (Clear S p) _ (λ x u y v. pos 0) A B eA eB
      (λ x u y v c d. ap (λ (z : Gauss). F z (onto S u p v)) (skip_number (through S u p v) (S.phase u v) (S.phase (S.mul u v) p) (S.phase p (S.mul u v)) (weight k x y) (L.opposite (S.mul u v) p) (through_before S L u v p d) (through_after S L u v p c)) ∙ additive_zero S add (onto S u p v))
      ∙ total_cong S _ _ A (λ x u. total_zero S B)
      ∙ total_zero S A
