-- SPDX-FileCopyrightText: 2026 The PPVM Authors
-- SPDX-License-Identifier: Apache-2.0

-- A sum over all pairs of a list, by its upper triangle. Assumes nothing.
use mathlib.Core.Path.{◌≡◌, refl, sym, ap, ap₂, ◌∙◌}
use mathlib.Core.List.{List, [], ◌∷◌}
use lib.IntN.{ℤ, pos}
use Rattle.number.specs.Whole.{◌⊞◌}
use Rattle.number.proofs.WholeLaws.{add_assoc, add_zero, swap_inner}

module _ {X : Type 0} where
  unfoldable pub over : (X → ℤ) → List X → ℤ
  over f [] = pos 0
  over f (x ∷ l) = f x ⊞ over f l

  -- the diagonal, and with each pair above it its mirror
  unfoldable pub upper : (X → X → ℤ) → List X → ℤ
  upper f [] = pos 0
  upper f (x ∷ l) = (f x x ⊞ over (λ y. f x y ⊞ f y x) l) ⊞ upper f l

  pub over_cong : (f g : X → ℤ) (l : List X) → ((x : X) → f x ≡ g x) → over f l ≡ over g l
  unfolding over
  over_cong f g [] h = refl
  over_cong f g (x ∷ l) h = ap₂ ◌⊞◌ (h x) (over_cong f g l h)

  pub over_add : (f g : X → ℤ) (l : List X) → over (λ x. f x ⊞ g x) l ≡ over f l ⊞ over g l
  unfolding over
  over_add f g [] = sym (add_zero (pos 0))
  over_add f g (x ∷ l) = ap (λ (z : ℤ). (f x ⊞ g x) ⊞ z) (over_add f g l) ∙ swap_inner _ _ _ _

  pub triangle : (f : X → X → ℤ) (l : List X) → over (λ x. over (f x) l) l ≡ upper f l
  unfolding over upper
  triangle f [] = refl
  triangle f (x ∷ l) =
      ap (λ (z : ℤ). (f x x ⊞ over (f x) l) ⊞ z) (over_add (λ z. f z x) (λ z. over (f z) l) l)
      ∙ sym (add_assoc _ _ _)
      ∙ ap₂ ◌⊞◌ (add_assoc _ _ _ ∙ ap (λ (z : ℤ). f x x ⊞ z) (sym (over_add (f x) (λ y. f y x) l))) (triangle f l)

  pub upper_cong : (f g : X → X → ℤ) (l : List X) → ((x : X) → f x x ≡ g x x) → ((x y : X) → f x y ⊞ f y x ≡ g x y ⊞ g y x) → upper f l ≡ upper g l
  unfolding upper
  upper_cong f g [] d h = refl
  upper_cong f g (x ∷ l) d h = ap₂ ◌⊞◌ (ap₂ ◌⊞◌ (d x) (over_cong _ _ l (h x))) (upper_cong f g l d h)
