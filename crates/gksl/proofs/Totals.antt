-- SPDX-FileCopyrightText: 2026 The PPVM Authors
-- SPDX-License-Identifier: Apache-2.0

-- Sums over operators: the total of F over an operator is the sum of F at each number and word. Assumes nothing.
use mathlib.Core.Path.{◌≡◌, refl, sym, ap, ap₂, ◌∙◌}
use mathlib.Core.List.{[], ◌∷◌, ◌++◌, map}
use lib.IntN.{ℤ, pos}
use Rattle.number.specs.Whole.{◌⊞◌, neg}
use Rattle.gksl.specs.Gauss.{Gauss, zero_g, add_g, neg_g, mul_g, conj_g, turn}
use Rattle.gksl.specs.Operator.{Words, Term, Op, at, times, product, adjoint, scale, minus}
use Rattle.gksl.specs.Rules.{pairs_over, gather_over}
use Rattle.gksl.proofs.GaussLaws.{plus_zero}
use Rattle.gksl.proofs.WholeRules.{pairs, gather}
use Rattle.number.proofs.WholeLaws.{add_assoc, add_zero, zero_add, swap_inner, doubled_none, neg_add, neg_zero}

unfoldable pub total : (S : Words) → (Gauss → S.Word → ℤ) → Op S → ℤ
total S F [] = pos 0
total S F (t ∷ A) = F t.num t.word ⊞ total S F A

-- a double sum, A's the outer
abbrev pub both : (S : Words) → (Gauss → S.Word → Gauss → S.Word → ℤ) → Op S → Op S → ℤ
both S F A B = total S (λ x u. total S (λ y v. F x u y v) B) A

-- F adds up in its number
pub record Additive (S : Words) (F : Gauss → S.Word → ℤ) : Type 0 where
  pub plus : (x y : Gauss) (w : S.Word) → F (add_g x y) w ≡ F x w ⊞ F y w

-- the same for every additive F: so the same number at every word
abbrev pub Same : (S : Words) → Op S → Op S → Type 0
Same S A B = (F : Gauss → S.Word → ℤ) → Additive S F → total S F A ≡ total S F B

-- P of each word of an operator
abbrev pub Every : (S : Words) → (S.Word → Type 0) → Op S → Type 0
Every S P [] = Unit {0}
Every S P (t ∷ A) = P t.word × Every S P A

module _ (S : Words) where
  pub additive_zero : {F : Gauss → S.Word → ℤ} → Additive S F → (w : S.Word) → F zero_g w ≡ pos 0
  additive_zero {F} h w = doubled_none (F zero_g w) (ap (λ (x : Gauss). F x w) (sym (plus_zero zero_g)) ∙ h.plus zero_g zero_g w)

  pub total_one : (F : Gauss → S.Word → ℤ) (t : Term S) → total S F (t ∷ []) ≡ F t.num t.word
  unfolding total
  total_one F t = add_zero (F t.num t.word)

  pub total_none : (F : Gauss → S.Word → ℤ) → total S F [] ≡ pos 0
  unfolding total
  total_none F = refl

  pub total_append : (F : Gauss → S.Word → ℤ) (A B : Op S) → total S F (A ++ B) ≡ total S F A ⊞ total S F B
  unfolding total
  total_append F [] B = sym (zero_add (total S F B))
  total_append F (t ∷ A) B = ap (λ (x : ℤ). F t.num t.word ⊞ x) (total_append F A B) ∙ sym (add_assoc (F t.num t.word) (total S F A) (total S F B))

  pub total_map : (F : Gauss → S.Word → ℤ) (f : Term S → Term S) (A : Op S)
      → total S F (map f A) ≡ total S (λ x u. F (f (at S x u)).num (f (at S x u)).word) A
  unfolding total
  total_map F f [] = refl
  total_map F f (t ∷ A) = ap (λ (x : ℤ). F (f t).num (f t).word ⊞ x) (total_map F f A)

  pub total_cong : (F G : Gauss → S.Word → ℤ) (A : Op S) → ((x : Gauss) (u : S.Word) → F x u ≡ G x u) → total S F A ≡ total S G A
  unfolding total
  total_cong F G [] h = refl
  total_cong F G (t ∷ A) h = ap₂ ◌⊞◌ (h t.num t.word) (total_cong F G A h)

  -- where F and G agree at the words that A has
  pub total_cong_at : (P : S.Word → Type 0) (F G : Gauss → S.Word → ℤ) (A : Op S)
      → Every S P A → ((x : Gauss) (u : S.Word) → P u → F x u ≡ G x u) → total S F A ≡ total S G A
  unfolding total
  total_cong_at P F G [] e h = refl
  total_cong_at P F G (t ∷ A) e h = ap₂ ◌⊞◌ (h t.num t.word e.0) (total_cong_at P F G A e.1 h)

  pub total_zero : (A : Op S) → total S (λ x u. pos 0) A ≡ pos 0
  unfolding total
  total_zero [] = refl
  total_zero (t ∷ A) = zero_add (total S (λ x u. pos 0) A) ∙ total_zero A

  pub total_add : (F G : Gauss → S.Word → ℤ) (A : Op S) → total S (λ x u. F x u ⊞ G x u) A ≡ total S F A ⊞ total S G A
  unfolding total
  total_add F G [] = sym (add_zero (pos 0))
  total_add F G (t ∷ A) =
      ap (λ (x : ℤ). (F t.num t.word ⊞ G t.num t.word) ⊞ x) (total_add F G A)
      ∙ swap_inner (F t.num t.word) (G t.num t.word) (total S F A) (total S G A)

  pub total_neg : (F : Gauss → S.Word → ℤ) (A : Op S) → total S (λ x u. neg (F x u)) A ≡ neg (total S F A)
  unfolding total
  total_neg F [] = sym neg_zero
  total_neg F (t ∷ A) = ap (λ (x : ℤ). neg (F t.num t.word) ⊞ x) (total_neg F A) ∙ sym (neg_add _ _)

  pub both_cong : (F G : Gauss → S.Word → Gauss → S.Word → ℤ) (A B : Op S)
      → ((x : Gauss) (u : S.Word) (y : Gauss) (v : S.Word) → F x u y v ≡ G x u y v) → both S F A B ≡ both S G A B
  both_cong F G A B h = total_cong _ _ A (λ x u. total_cong _ _ B (h x u))

  pub both_cong_at : (P Q : S.Word → Type 0) (F G : Gauss → S.Word → Gauss → S.Word → ℤ) (A B : Op S) → Every S P A → Every S Q B
      → ((x : Gauss) (u : S.Word) (y : Gauss) (v : S.Word) → P u → Q v → F x u y v ≡ G x u y v) → both S F A B ≡ both S G A B
  both_cong_at P Q F G A B p q h = total_cong_at P _ _ A p (λ x u pu. total_cong_at Q _ _ B q (λ y v qv. h x u y v pu qv))

  pub both_add : (F G : Gauss → S.Word → Gauss → S.Word → ℤ) (A B : Op S)
      → both S (λ x u y v. F x u y v ⊞ G x u y v) A B ≡ both S F A B ⊞ both S G A B
  both_add F G A B = total_cong _ _ A (λ x u. total_add (F x u) (G x u) B) ∙ total_add _ _ A

  pub both_swap : (F : Gauss → S.Word → Gauss → S.Word → ℤ) (A B : Op S) → both S F A B ≡ both S (λ y v x u. F x u y v) B A
  unfolding total
  both_swap F [] B = sym (total_zero B)
  both_swap F (t ∷ A) B = ap (λ (x : ℤ). total S (F t.num t.word) B ⊞ x) (both_swap F A B) ∙ sym (total_add _ _ B)

  pub total_product : (F : Gauss → S.Word → ℤ) (A B : Op S)
      → total S F (product S A B) ≡ both S (λ x u y v. F (turn (S.phase u v) (mul_g x y)) (S.mul u v)) A B
  unfolding total product
  total_product F [] B = refl
  total_product F (a ∷ A) B = total_append F (map (times S a) B) (product S A B) ∙ ap₂ ◌⊞◌ (total_map F (times S a) B) (total_product F A B)

  pub total_adjoint : (F : Gauss → S.Word → ℤ) (A : Op S) → total S F (adjoint S A) ≡ total S (λ x u. F (conj_g x) u) A
  unfolding adjoint
  total_adjoint F A = total_map F _ A

  pub total_scale : (F : Gauss → S.Word → ℤ) (k : Gauss) (A : Op S) → total S F (scale S k A) ≡ total S (λ x u. F (mul_g k x) u) A
  unfolding scale
  total_scale F k A = total_map F _ A

  pub total_minus : (F : Gauss → S.Word → ℤ) (A : Op S) → total S F (minus S A) ≡ total S (λ x u. F (neg_g x) u) A
  unfolding minus
  total_minus F A = total_map F _ A

  pub total_pairs : (F : Gauss → S.Word → ℤ) (f : Term S → Term S → Term S) (A B : Op S)
      → total S F (pairs S f A B) ≡ both S (λ x u y v. F (f (at S x u) (at S y v)).num (f (at S x u) (at S y v)).word) A B
  unfolding total pairs_over
  total_pairs F f [] B = refl
  total_pairs F f (a ∷ A) B = total_append F (map (f a) B) (pairs S f A B) ∙ ap₂ ◌⊞◌ (total_map F (f a) B) (total_pairs F f A B)

  pub total_gather : (F : Gauss → S.Word → ℤ) (f : Term S → Op S) (M : Op S)
      → total S F (gather S f M) ≡ total S (λ x u. total S F (f (at S x u))) M
  unfolding total gather_over
  total_gather F f [] = refl
  total_gather F f (c ∷ M) = total_append F (f c) (gather S f M) ∙ ap (λ (x : ℤ). total S F (f c) ⊞ x) (total_gather F f M)

  pub both_four : (F G H K : Gauss → S.Word → Gauss → S.Word → ℤ) (A B : Op S)
      → both S (λ x u y v. (F x u y v ⊞ G x u y v) ⊞ (H x u y v ⊞ K x u y v)) A B ≡ (both S F A B ⊞ both S G A B) ⊞ (both S H A B ⊞ both S K A B)
  both_four F G H K A B = both_add _ _ A B ∙ ap₂ ◌⊞◌ (both_add F G A B) (both_add H K A B)
