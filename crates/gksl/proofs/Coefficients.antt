-- SPDX-FileCopyrightText: 2026 The PPVM Authors
-- SPDX-License-Identifier: Apache-2.0

-- From totals to the number at a word. Assumes nothing.
use mathlib.Core.Path.{◌≡◌, refl, sym, ap, ◌∙◌}
use mathlib.Core.Bool.{Bool, true, false}
use mathlib.Core.List.{[], ◌∷◌}
use lib.IntN.{ℤ, pos}
use Rattle.number.specs.Whole.{◌⊞◌, neg}
use Rattle.gksl.specs.Gauss.{Gauss, zero_g, add_g, conj_g}
use Rattle.gksl.specs.Operator.{Words, Op, pick, coeff}
use Rattle.gksl.proofs.GaussLaws.{same, parts, plus_zero, re_add, im_add, im_conj}
use Rattle.number.proofs.WholeLaws.{opposite_none}
use Rattle.gksl.proofs.Totals.{total, Additive, total_cong, total_neg}
use Rattle.gksl.proofs.Reality.{Real}

pick_plus : (b : Bool) (x y : Gauss) → pick b (add_g x y) ≡ add_g (pick b x) (pick b y)
pick_plus true x y = refl
pick_plus false x y = sym (plus_zero zero_g)

pick_conj : (b : Bool) (x : Gauss) → pick b (conj_g x) ≡ conj_g (pick b x)
pick_conj true x = refl
pick_conj false x = same (simp parts) (simp parts)

module _ (S : Words) (w : S.Word) where
  -- the real and the imaginary part of a number that stands at w
  pub re_at : Gauss → S.Word → ℤ
  re_at z v = (pick (S.alike v w) z).re

  im_at : Gauss → S.Word → ℤ
  im_at z v = (pick (S.alike v w) z).im

  -- nothing at a number with no real part
  pub re_none : (z : Gauss) (v : S.Word) → z.re ≡ pos 0 → re_at z v ≡ pos 0
  unfolding re_at
  re_none z v h = go (S.alike v w)
    where
      go : (b : Bool) → (pick b z).re ≡ pos 0
      go true = h
      go false = refl

  pub re_additive : Additive S re_at
  unfolding re_at
  re_additive = record { plus = λ x y v. ap (λ (z : Gauss). z.re) (pick_plus (S.alike v w) x y) ∙ re_add _ _ }

  im_additive : Additive S im_at
  unfolding im_at
  im_additive = record { plus = λ x y v. ap (λ (z : Gauss). z.im) (pick_plus (S.alike v w) x y) ∙ im_add _ _ }

  pub re_coeff : (A : Op S) → (coeff S w A).re ≡ total S re_at A
  unfolding coeff total re_at
  re_coeff [] = refl
  re_coeff (t ∷ A) = re_add _ _ ∙ ap (λ (z : ℤ). (pick (S.alike t.word w) t.num).re ⊞ z) (re_coeff A)

  im_coeff : (A : Op S) → (coeff S w A).im ≡ total S im_at A
  unfolding coeff total im_at
  im_coeff [] = refl
  im_coeff (t ∷ A) = im_add _ _ ∙ ap (λ (z : ℤ). (pick (S.alike t.word w) t.num).im ⊞ z) (im_coeff A)

  -- an operator that is its own adjoint has real numbers
  pub real_coeff : (A : Op S) → Real S A → (coeff S w A).im ≡ pos 0
  unfolding im_at
  real_coeff A h =
      opposite_none _ (im_coeff A ∙ h im_at im_additive ∙ flipped ∙ ap neg (sym (im_coeff A)))
    where
      flipped : total S (λ z v. im_at (conj_g z) v) A ≡ neg (total S im_at A)
      flipped = total_cong S _ _ A (λ z v. ap (λ (x : Gauss). x.im) (pick_conj (S.alike v w) z) ∙ im_conj _) ∙ total_neg S im_at A
