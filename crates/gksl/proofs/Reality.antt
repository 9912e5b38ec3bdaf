-- SPDX-FileCopyrightText: 2026 The PPVM Authors
-- SPDX-License-Identifier: Apache-2.0

-- The exact generator of a word has real numbers only. Assumes nothing.
use mathlib.Core.Path.{◌≡◌, sym, ap, ap₂, ◌∙◌}
use mathlib.Core.List.{◌++◌}
use Prim.Native.Nat.{ℕ, zero, suc, ◌%◌}
use lib.IntN.{ℤ}
use Rattle.number.specs.Whole.{◌⊞◌}
use Rattle.gksl.specs.Gauss.{Gauss, add_g, conj_g}
use Rattle.gksl.specs.Operator.{Words, Op}
use Rattle.gksl.specs.Rules.{onto}
use Rattle.gksl.specs.Generator.{commutator2, dissipator2}
use Rattle.gksl.proofs.GaussLaws.{same, parts, conj_plus, conj_conj, plus_comm}
use Rattle.gksl.proofs.WholeRules.{hamiltonian}
use Rattle.gksl.proofs.Totals.{total, Additive, total_append, total_gather, total_cong, both_cong, both_swap}
use Rattle.gksl.proofs.WordLaws.{Laws, word_reverse}
use Rattle.gksl.proofs.Parity.{odd_num, odd_plus, total_oddly}
use Rattle.gksl.proofs.ExactTerms.{exact, exact_total}
use Rattle.gksl.proofs.Fold.{exact_conj, folded}
use Rattle.gksl.proofs.SingleLaws.{hamiltonian_exact}

-- an operator that is its own adjoint
abbrev pub Real : (S : Words) → Op S → Type 0
Real S A = (F : Gauss → S.Word → ℤ) → Additive S F → total S F A ≡ total S (λ z w. F (conj_g z) w) A

module _ (S : Words) where
  pub conj_additive : {F : Gauss → S.Word → ℤ} → Additive S F → Additive S (λ z w. F (conj_g z) w)
  conj_additive {F} add = record { plus = λ x y w. ap (λ (z : Gauss). F z w) (conj_plus x y) ∙ add.plus _ _ w }

  pub real_append : (A B : Op S) → Real S A → Real S B → Real S (A ++ B)
  real_append A B a b F add = total_append S F A B ∙ ap₂ ◌⊞◌ (a F add) (b F add) ∙ sym (total_append S _ A B)

odd_conj : (n : ℕ) (x : Gauss) → odd_num n (conj_g x) ≡ conj_g (odd_num n x)
unfolding odd_num
odd_conj zero x = same (simp parts) (simp parts)
odd_conj (suc zero) x = same (simp parts) (simp parts)
odd_conj (suc (suc zero)) x = same (simp parts) (simp parts)
odd_conj (suc (suc (suc n))) x = same (simp parts) (simp parts)

module _ (S : Words) (L : Laws S) where
  -- a jump, and a diagonal pair, at a real rate
  pub real_dissipator : (k : Gauss) (A : Op S) (p : S.Word) → conj_g k ≡ k → Real S (dissipator2 S k A A p)
  real_dissipator k A p h F add =
      exact_total S L F add k A A p
      ∙ both_swap S _ A A
      ∙ both_cong S _ _ A A (λ x u y v. ap₂ F (ap (λ (l : Gauss). exact S l p y v x u) (sym h) ∙ exact_conj S L k p x u y v) (word_reverse S L u v p))
      ∙ sym (exact_total S L (λ z w. F (conj_g z) w) (conj_additive S add) k A A p)

  -- a pair with its conjugate
  pub real_folded : (k : Gauss) (A B : Op S) (p : S.Word) → Real S (dissipator2 S k A B p ++ dissipator2 S (conj_g k) B A p)
  real_folded k A B p F add =
      total_append S F _ _
      ∙ folded S L F add k A B p
      ∙ both_cong S _ _ A B (λ x u y v. ap (λ (z : Gauss). F z (onto S u p v)) (own (exact S k p x u y v)))
      ∙ sym (folded S L (λ z w. F (conj_g z) w) (conj_additive S add) k A B p)
      ∙ sym (total_append S _ _ _)
    where
      own : (x : Gauss) → add_g x (conj_g x) ≡ conj_g (add_g x (conj_g x))
      own x = plus_comm x (conj_g x) ∙ ap (add_g (conj_g x)) (sym (conj_conj x)) ∙ sym (conj_plus x (conj_g x))

  real_hamiltonian : (H : Op S) (p : S.Word) → Real S H → Real S (hamiltonian S H p)
  unfolding hamiltonian
  real_hamiltonian H p h F add =
      total_gather S F _ H
      ∙ total_cong S _ _ H (λ x u. total_oddly S F add (S.phase u p % 4) x (S.mul u p))
      ∙ h (λ x u. F (odd_num (S.phase u p % 4) x) (S.mul u p)) (record { plus = λ x y u. ap (λ (z : Gauss). F z (S.mul u p)) (odd_plus _ x y) ∙ add.plus _ _ _ })
      ∙ total_cong S _ _ H (λ x u. ap (λ (z : Gauss). F z (S.mul u p)) (odd_conj (S.phase u p % 4) x) ∙ sym (total_oddly S _ (conj_additive S add) (S.phase u p % 4) x (S.mul u p)))
      ∙ sym (total_gather S _ _ H)

  -- the commutator with a real sum of words
  pub real_commutator : (H : Op S) (p : S.Word) → Real S H → Real S (commutator2 S H p)
  real_commutator H p h F add =
      sym (hamiltonian_exact S L F add H p)
      ∙ ap (λ (z : ℤ). z ⊞ z) (real_hamiltonian H p h F add)
      ∙ hamiltonian_exact S L _ (conj_additive S add) H p
