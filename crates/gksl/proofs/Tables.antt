-- SPDX-FileCopyrightText: 2026 The PPVM Authors
-- SPDX-License-Identifier: Apache-2.0

-- Tables have the totals of what was put in. Assumes nothing.
use mathlib.Core.Path.{◌≡◌, refl, sym, ap, ◌∙◌}
use mathlib.Core.Bool.{Bool, true, false, cond}
use mathlib.Core.List.{List, [], ◌∷◌, ◌++◌}
use lib.IntN.{ℤ, pos}
use Rattle.number.specs.Numbers.{Numbers}
use Rattle.number.specs.Whole.{◌⊞◌}
use Rattle.gksl.specs.Gauss.{Gauss, zero_g, add_g}
use Rattle.gksl.specs.Operator.{Words, Onto, Term, Op, at}
use Rattle.gksl.specs.Table.{put_over, put_all_over, without_over, put, put_all, without}
use Rattle.gksl.proofs.GaussLaws.{plus_comm, plus_zero}
use Rattle.number.proofs.WholeLaws.{add_assoc, add_comm, add_left_comm, zero_add, add_zero}
use Rattle.gksl.proofs.Totals.{total, Additive, total_none}
use Rattle.gksl.proofs.WordLaws.{Laws}

zero_plus : (x : Gauss) → add_g zero_g x ≡ x
zero_plus x = plus_comm zero_g x ∙ plus_zero x

module _ (S : Words) (L : Laws S) (F : Gauss → S.Word → ℤ) (add : Additive S F) where
  pub total_put : (t : Term S) (T : Op S) → total S F (put S t T) ≡ F t.num t.word ⊞ total S F T
  unfolding total put_over
  total_put t [] = ap (λ (x : Gauss). F x t.word ⊞ pos 0) (zero_plus t.num)
  total_put t (c ∷ T) =
      ways (S.alike c.word t.word) (S.below t.word c.word) refl (total_put t T)
    where
      ways : (b d : Bool) → S.alike c.word t.word ≡ b → total S F (put S t T) ≡ F t.num t.word ⊞ total S F T
          → total S F (cond b (at S (add_g c.num t.num) c.word ∷ T) (cond d (at S (add_g zero_g t.num) t.word ∷ (c ∷ T)) (c ∷ put S t T)))
          ≡ F t.num t.word ⊞ (F c.num c.word ⊞ total S F T)
      ways true d e ih =
          ap (λ (z : ℤ). z ⊞ total S F T) (add.plus c.num t.num c.word ∙ ap (λ (u : S.Word). F c.num c.word ⊞ F t.num u) (L.known _ _ e) ∙ add_comm _ _)
          ∙ add_assoc _ _ _
      ways false true e ih = ap (λ (x : Gauss). F x t.word ⊞ (F c.num c.word ⊞ total S F T)) (zero_plus t.num)
      ways false false e ih = ap (λ (z : ℤ). F c.num c.word ⊞ z) ih ∙ add_left_comm _ _ _

  pub total_put_all : (A T : Op S) → total S F (put_all S A T) ≡ total S F A ⊞ total S F T
  unfolding total put_all_over
  total_put_all [] T = sym (zero_add (total S F T))
  total_put_all (t ∷ A) T =
      total_put_all A (put S t T)
      ∙ ap (λ (z : ℤ). total S F A ⊞ z) (total_put t T)
      ∙ add_left_comm _ _ _
      ∙ sym (add_assoc _ _ _)

  pub total_table : (A : Op S) → total S F (put_all S A []) ≡ total S F A
  total_table A = total_put_all A [] ∙ ap (λ (z : ℤ). total S F A ⊞ z) (total_none S F) ∙ add_zero _

-- thinning drops only what F takes to 0
module _ (S : Words) (F : Gauss → S.Word → ℤ) (drop : Term S → Bool) (none : (t : Term S) → drop t ≡ true → F t.num t.word ≡ pos 0) where
  pub total_without : (T : Op S) → total S F (without S drop T) ≡ total S F T
  unfolding total without_over
  total_without [] = refl
  total_without (t ∷ T) = go (drop t) refl (total_without T)
    where
      go : (b : Bool) → drop t ≡ b → total S F (without S drop T) ≡ total S F T → total S F (cond b (without S drop T) (t ∷ without S drop T)) ≡ F t.num t.word ⊞ total S F T
      go true e ih = ih ∙ sym (ap (λ (z : ℤ). z ⊞ total S F T) (none t e) ∙ zero_add _)
      go false e ih = ap (λ (z : ℤ). F t.num t.word ⊞ z) ih

-- what is added in two parts
pub put_all_append : (N : Numbers) (S : Words) (A B T : List (Onto N S)) → put_all_over N S (A ++ B) T ≡ put_all_over N S B (put_all_over N S A T)
unfolding put_all_over
put_all_append N S [] B T = refl
put_all_append N S (t ∷ A) B T = put_all_append N S A B (put_over N S t T)
