-- SPDX-FileCopyrightText: 2026 The PPVM Authors
-- SPDX-License-Identifier: Apache-2.0

-- What a prune and a cap keep of a basis in plain lists: the protected stay, at most so many are left, and a raised limit loses nobody.
-- Assumes nothing.
use mathlib.Core.Path.{◌≡◌, refl, sym, ap, ◌∙◌}
use mathlib.Core.Bool.{Bool, true, false, cond}
use mathlib.Core.List.{List, [], ◌∷◌, map}
use Prim.Native.Nat.{ℕ, zero, suc, ◌-◌, ◌≤◌, max}
use native.Mathlib.Omega.{arith}
use borrow.Author.Tests.{leb-true, leb-false, ne_eqb}
use lib.Dec.{leb}
use lib.Ieee.{Float, le}
use lib.ListN.{length, length-map}
use Rattle.word.specs.declared.word.Word.{Word}
use Rattle.number.specs.Floats.{float0}
use Rattle.order.specs.Magnitudes.{by_magnitude}
use Rattle.order.specs.Places.{is_among}
use Rattle.order.specs.Members.{Member}
use Rattle.keep.specs.Retained.{flagged}
use Rattle.keep.specs.Chosen.{chosen, flag_of}
use Rattle.keep.specs.Pruned.{large_flag, large_flags}
use Rattle.keep.proofs.FlagLaws.{Kept}
use Rattle.keep.proofs.ChosenLaws.{chosen_fixed, chosen_more, walked_length}
use Rattle.keep.proofs.PruneLaws.{large_length}
use Rattle.step_laws.specs.Steps.{Stepped, protected_in, kept_by, pruned_by, capped_by}
use Rattle.step_laws.proofs.PickLaws.{pick_few, pick_more, pick_in, own_stays, chosen_few}

pub chosen_long : (order fixed : List ℕ) (slots : ℕ) → length (chosen order fixed slots) ≡ length fixed
chosen_long order fixed slots = walked_length fixed order slots (map flag_of fixed) ∙ length-map fixed flag_of

-- a flag that stood before a prune stands after it
pub large_stands : (tol : Float) (xs : List Float) (ks : List ℕ) (p : ℕ) → Kept ks p → Kept (large_flags tol xs ks) p
unfolding large_flags large_flag
large_stands tol [] ks p n = n
large_stands tol (x ∷ xs) [] p n = n
large_stands tol (x ∷ xs) (k ∷ ks) zero n = rw (ne_eqb k 0 n) (λ e. omega arith)
large_stands tol (x ∷ xs) (k ∷ ks) (suc p) n = large_stands tol xs ks p n

module _ (protected : List Word) where
  abbrev flag : Word → ℕ
  flag w = cond (is_among w protected) 1 0

  flag_raised : (w : Word) → is_among w protected ≡ true → flag w ≡ 0 → ⊥
  flag_raised w e z = omega (arith, ap (λ (b : Bool). cond {A = ℕ} b 1 0) (sym e) ∙ z)

  module _ (s : Stepped) where
    abbrev fixed : List ℕ
    fixed = protected_in protected s.words

    abbrev pub prune_flags : Float → List ℕ
    prune_flags tol = large_flags tol s.numbers fixed

    abbrev pub cap_flags : ℕ → List ℕ
    cap_flags limit = chosen (by_magnitude s.numbers) fixed (limit - flagged fixed)

    -- ---- the protected stay
    pub prune_protected : (tol : Float) (w : Word) → is_among w protected ≡ true → Member w s.words → Member w (pruned_by protected tol s).words
    unfolding pruned_by
    prune_protected tol w e m = go (le tol float0)
      where
        go : (b : Bool) → Member w (cond b s (kept_by protected (prune_flags tol) s)).words
        go true = m
        go false = own_stays flag (prune_flags tol) w s.words (sym (large_length tol s.numbers fixed)) (large_stands tol s.numbers fixed) (flag_raised w e) m

    pub cap_protected : (limit : ℕ) (w : Word) → is_among w protected ≡ true → Member w s.words → Member w (capped_by protected limit s).words
    unfolding capped_by
    cap_protected limit w e m = go (leb (length s.words) limit)
      where
        go : (b : Bool) → Member w (cond b s (kept_by protected (cap_flags limit) s)).words
        go true = m
        go false =
            own_stays flag (cap_flags limit) w s.words (sym (chosen_long (by_magnitude s.numbers) fixed (limit - flagged fixed)))
            (chosen_fixed (by_magnitude s.numbers) fixed (limit - flagged fixed)) (flag_raised w e) m

    -- ---- how many are left
    pub cap_few : (limit : ℕ) → length (capped_by protected limit s).words ≤ max limit (flagged (protected_in protected s.words))
    unfolding capped_by
    cap_few limit = go (leb (length s.words) limit) refl
      where
        go : (b : Bool) → leb (length s.words) limit ≡ b → length (cond b s (kept_by protected (cap_flags limit) s)).words ≤ max limit (flagged fixed)
        go true t = omega (arith, leb-true (length s.words) limit t)
        go false t = omega (arith, pick_few (cap_flags limit) s.words, chosen_few (by_magnitude s.numbers) fixed (limit - flagged fixed))

    -- ---- a raised limit loses nobody
    pub cap_raised : (limit limit' : ℕ) → limit ≤ limit' → (w : Word) → Member w (capped_by protected limit s).words → Member w (capped_by protected limit' s).words
    unfolding capped_by
    cap_raised limit limit' h w = go (leb (length s.words) limit) refl (leb (length s.words) limit') refl
      where
        go : (b : Bool) → leb (length s.words) limit ≡ b → (c : Bool) → leb (length s.words) limit' ≡ c
            → Member w (cond b s (kept_by protected (cap_flags limit) s)).words → Member w (cond c s (kept_by protected (cap_flags limit') s)).words
        go true t true u m = m
        go true t false u m = absurd (omega (arith, leb-true (length s.words) limit t, leb-false (length s.words) limit' u))
        go false t true u m = pick_in w (cap_flags limit) s.words m
        go false t false u m =
            pick_more w (cap_flags limit) (cap_flags limit') s.words
            (chosen_long (by_magnitude s.numbers) fixed (limit - flagged fixed) ∙ sym (chosen_long (by_magnitude s.numbers) fixed (limit' - flagged fixed)))
            (chosen_more (by_magnitude s.numbers) fixed (limit - flagged fixed) (limit' - flagged fixed) (omega arith)) m
