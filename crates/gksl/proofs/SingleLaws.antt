-- SPDX-FileCopyrightText: 2026 The PPVM Authors
-- SPDX-License-Identifier: Apache-2.0

-- The commutator, and the jump of one word. Assumes nothing.
use mathlib.Core.Path.{◌≡◌, refl, sym, ap, ap₂, ◌∙◌}
use mathlib.Core.List.{[], ◌∷◌}
use Prim.Native.Nat.{ℕ, zero, suc, ◌*◌, ◌%◌, ◌<◌}
use native.Mathlib.Omega.{arith}
use lib.IntN.{ℤ}
use Rattle.number.specs.Whole.{◌⊞◌}
use Rattle.gksl.specs.Gauss.{Gauss, zero_g, one_g, add_g, neg_g, mul_g, i_g, turn}
use Rattle.gksl.specs.Operator.{Words, Op, at}
use Rattle.gksl.specs.Rules.{through}
use Rattle.gksl.specs.Generator.{commutator2, dissipator2}
use Rattle.gksl.proofs.GaussLaws.{same, parts, i_times, i_plus, times_comm, times_one, turn_like}
use Rattle.gksl.proofs.WholeRules.{hamiltonian, clashing, pauli}
use Rattle.number.proofs.WholeLaws.{cancels}
use Rattle.gksl.proofs.Totals.{total, Additive, additive_zero, total_one, total_none, total_append, total_gather, total_product, total_scale, total_minus, total_cong, total_add}
use Rattle.gksl.proofs.WordLaws.{Laws, Back, before, after, after_reverse}
use Rattle.gksl.proofs.Parity.{odd_num, odd_law, total_oddly}
use Rattle.gksl.proofs.ExactTerms.{bracket, weight, exact_total}

one_times : (x : Gauss) → mul_g one_g x ≡ x
one_times x = times_comm one_g x ∙ times_one x

i_one_times : (x : Gauss) → mul_g (i_g one_g) x ≡ i_g x
i_one_times x = i_times one_g x ∙ ap i_g (one_times x)

pub odd_none : (n : ℕ) (x : Gauss) → n < 4 → n % 2 ≡ 0 → odd_num n x ≡ zero_g
unfolding odd_num
odd_none zero x l h = refl
odd_none (suc zero) x l h = absurd (omega arith)
odd_none (suc (suc zero)) x l h = refl
odd_none (suc (suc (suc zero))) x l h = absurd (omega arith)
odd_none (suc (suc (suc (suc n)))) x l h = absurd (omega arith)

unfoldable clash_num : ℕ → Gauss → Gauss
clash_num zero g = zero_g
clash_num (suc n) g = neg_g (add_g g g)

clash_number : (n s l r : ℕ) (x : Gauss) → n < 2 → s % 4 ≡ 2 * n % 4 → l % 4 ≡ 0 → r % 4 ≡ 0 → bracket s l r x ≡ add_g (clash_num n x) (clash_num n x)
unfolding clash_num turn
clash_number n s l r x h hs hl hr =
    ap₂ (λ (a b : Gauss). add_g (add_g a a) b) (turn_like s (2 * n) x hs) (ap₂ (λ (a b : Gauss). add_g (neg_g a) (neg_g b)) (turn_like l 0 x hl) (turn_like r 0 x hr))
    ∙ at_two n h
  where
    at_two : (n : ℕ) → n < 2 → bracket (2 * n) 0 0 x ≡ add_g (clash_num n x) (clash_num n x)
    at_two zero h = same (simp (parts, cancels)) (simp (parts, cancels))
    at_two (suc zero) h = same (simp parts) (simp parts)
    at_two (suc (suc n)) h = absurd (omega arith)

module _ (S : Words) (L : Laws S) (F : Gauss → S.Word → ℤ) (add : Additive S F) where
  -- i (H p - p H), once
  commutes : (H : Op S) (p : S.Word)
      → total S (λ x u. F (i_g (turn (S.phase u p) x)) (S.mul u p)) H ⊞ total S (λ x u. F (i_g (neg_g (turn (S.phase p u) x))) (S.mul p u)) H
      ≡ total S F (hamiltonian S H p)
  unfolding hamiltonian
  commutes H p =
      sym (total_add S _ _ H)
      ∙ total_cong S _ _ H (λ x u.
      ap (λ (w : S.Word). F (i_g (turn (S.phase u p) x)) (S.mul u p) ⊞ F (i_g (neg_g (turn (S.phase p u) x))) w) (L.comm p u)
      ∙ sym (add.plus _ _ _)
      ∙ ap (λ (z : Gauss). F z (S.mul u p)) (sym (i_plus _ _) ∙ odd_law (S.phase u p) (S.phase p u) x (L.opposite u p))
      ∙ sym (total_oddly S F add (S.phase u p % 4) x (S.mul u p)))
      ∙ sym (total_gather S F _ H)

  -- the Hamiltonian's rule
  pub hamiltonian_exact : (H : Op S) (p : S.Word) → total S F (hamiltonian S H p) ⊞ total S F (hamiltonian S H p) ≡ total S F (commutator2 S H p)
  unfolding commutator2
  hamiltonian_exact H p =
      simp (total_scale S, total_append S, total_minus S, total_product S, total_one S, times_one, one_times, i_one_times)
      (sym (ap₂ ◌⊞◌ (commutes H p) (commutes H p)))

  total_clashing : (n : ℕ) (g : Gauss) (p : S.Word) → total S F (clashing S n g p) ≡ F (clash_num n g) p
  unfolding clashing clash_num
  total_clashing zero g p = total_none S F ∙ sym (additive_zero S add p)
  total_clashing (suc n) g p = total_one S F _

  -- a jump of one term c a: g is rate × c* × c
  pub pauli_exact : (k c : Gauss) (a p : S.Word) → Back S p a
      → total S F (pauli S (weight k c c) a p) ⊞ total S F (pauli S (weight k c c) a p) ≡ total S F (dissipator2 S k (at S c a ∷ []) (at S c a ∷ []) p)
  unfolding pauli
  pauli_exact k c a p home =
      let e = L.undone a p in
      let f = L.opposite a (S.mul a p) in
      let g = L.cocycle a a p in
      let d = after_reverse S L a a p in
      ap (λ (z : ℤ). z ⊞ z) (total_clashing (S.phase a p % 2) (weight k c c) p)
      ∙ sym (add.plus _ _ _)
      ∙ sym (exact_total S L F add k (at S c a ∷ []) (at S c a ∷ []) p ∙ total_one S _ _ ∙ total_one S _ _
      ∙ ap₂ F (clash_number (S.phase a p % 2) (through S a p a) (before S a a p) (after S a a p) (weight k c c) (omega arith) (omega arith) (omega arith) (omega arith)) (L.comm (S.mul a p) a ∙ home))
