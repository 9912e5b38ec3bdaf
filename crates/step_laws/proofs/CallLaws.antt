-- SPDX-FileCopyrightText: 2026 The PPVM Authors
-- SPDX-License-Identifier: Apache-2.0

-- The prune and the cap of a step are those of the calls: over lent tables an accepted call leaves the same words and numbers. Assumes nothing.
use mathlib.Core.Path.{◌≡◌, refl, sym, ap, ◌∙◌}
use mathlib.Core.Bool.{Bool, true, false, cond}
use mathlib.Core.List.{List}
use Prim.Native.Nat.{ℕ, ◌≤◌}
use native.Mathlib.Omega.{arith}
use lib.Dec.{leb}
use lib.Ieee.{Float, le}
use lib.ListN.{length, take, replicate, length-take, length-replicate, get_or-replicate}
use lib.Seq.{length-take-le}
use Rattle.word.specs.Flat.{words}
use Rattle.word.proofs.FlatLaws.{words_high}
use Rattle.number.specs.Floats.{float0}
use Rattle.keep.specs.Retained.{pick, flagged}
use Rattle.truncate.specs.Prunes.{protected_flags, prune_flags, cap_flags, Keeping, prune, cap}
use Rattle.std.specs.Prelude.{Ok}
use Rattle.truncate.proofs.CapLaws.{cap_room}
use Rattle.truncate_laws.specs.Keeps.{pruned_flags, capped_flags, Stays}
use Rattle.truncate_laws.proofs.AcceptedCalls.{entries_same, cap_accepted}
use Rattle.truncate_laws.proofs.StaysLaws.{prune_stays, cap_stays}
use Rattle.step_laws.specs.Steps.{Stepped, kept_by, pruned_by, capped_by}
use Rattle.step_laws.specs.Kept.{Leaves}
use Rattle.step_laws.proofs.PlaceLaws.{pick_all}

ones_pick : {A : Type 0} (n : ℕ) (l : List A) → length l ≤ n → pick (replicate n 1) l ≡ l
ones_pick n l h = pick_all (replicate n 1) l (omega (arith, h, length-replicate {A = ℕ} n 1)) (λ p i z. omega (arith, sym (get_or-replicate {A = ℕ} n p 1 0 (omega arith)) ∙ z))

module _ (len : ℕ) (lanes : List ℕ) (coeffs : List Float) (order work fixed kept : List ℕ) (n : ℕ) (protected : List ℕ) (products : ℕ) where
  -- the basis lent
  abbrev pub lent_basis : Stepped
  lent_basis = record { words = take len (words lanes); numbers = take len coeffs; products = products }

  -- flags that are all raised where a call does nothing
  picks : (b : Bool) (flags : List ℕ) (r : ℕ) (after : Keeping) → Stays len lanes coeffs (cond b (replicate len 1) flags) after → after.answer ≡ Ok r
      → Leaves r after (cond b lent_basis (kept_by (words protected) flags lent_basis))
  picks b flags r after st answer =
      let is : r ≡ flagged (cond b (replicate len 1) flags) = entries_same r (flagged (cond b (replicate len 1) flags)) (sym answer ∙ st.answers) in
      record {
        words_are = ap (λ (k : ℕ). take k (words after.lanes)) is ∙ st.words_kept ∙ as_words b;
        numbers_are = ap (λ (k : ℕ). take k after.coeffs) is ∙ st.coeffs_kept ∙ as_numbers b;
      }
    where
      as_words : (b : Bool) → pick (cond b (replicate len 1) flags) (take len (words lanes)) ≡ (cond b lent_basis (kept_by (words protected) flags lent_basis)).words
      as_words true = ones_pick len (take len (words lanes)) (omega (arith, length-take len (words lanes)))
      as_words false = refl

      as_numbers : (b : Bool) → pick (cond b (replicate len 1) flags) (take len coeffs) ≡ (cond b lent_basis (kept_by (words protected) flags lent_basis)).numbers
      as_numbers true = ones_pick len (take len coeffs) (omega (arith, length-take len coeffs))
      as_numbers false = refl

  pub prune_leaves : (tol : Float) (r : ℕ) → (prune len lanes coeffs order work fixed kept n protected tol).answer ≡ Ok r
      → Leaves r (prune len lanes coeffs order work fixed kept n protected tol) (pruned_by (words protected) tol (lent_basis))
  unfolding pruned_flags prune_flags protected_flags pruned_by
  prune_leaves tol r answer =
      picks (le tol float0) (prune_flags len lanes coeffs protected tol) r (prune len lanes coeffs order work fixed kept n protected tol) (prune_stays len lanes coeffs order work fixed kept n protected tol r answer) answer

  pub cap_leaves : (limit r : ℕ) → (cap len lanes coeffs order work fixed kept n protected limit).answer ≡ Ok r
      → Leaves r (cap len lanes coeffs order work fixed kept n protected limit) (capped_by (words protected) limit (lent_basis))
  unfolding capped_flags cap_flags protected_flags capped_by
  cap_leaves limit r answer =
      let room = cap_room len lanes coeffs order work fixed kept n protected limit (cap_accepted len lanes coeffs order work fixed kept n protected limit r answer) in
      let l : length (take len (words lanes)) ≡ len = length-take-le len (words lanes) (omega (arith, room.lanes_room, words_high lanes)) in
      rw (ap (λ (k : ℕ). leb k limit) l)
      (picks (leb len limit) (cap_flags len lanes coeffs protected limit) r (cap len lanes coeffs order work fixed kept n protected limit) (cap_stays len lanes coeffs order work fixed kept n protected limit r answer) answer)
