-- SPDX-FileCopyrightText: 2026 The PPVM Authors
-- SPDX-License-Identifier: Apache-2.0

-- Of the unprotected entries a prune keeps none that is smaller than one it drops. Assumes nothing.
use mathlib.Core.Path.{◌≡◌, refl, sym, ap, ◌∙◌}
use mathlib.Core.Bool.{Bool, true, false, cond}
use mathlib.Core.List.{List}
use Prim.Native.Nat.{ℕ, ◌≤◌, ◌<◌}
use native.Mathlib.Omega.{arith}
use borrow.Author.Tests.{leb-true, leb-false}
use lib.Dec.{T, leb}
use lib.Ieee.{Float, nan, binary64, fits, le}
use lib.ListN.{length, get_or, replicate}
use Rattle.number.specs.Key.{key, nonneg}
use Rattle.number.specs.Floats.{float0, is_finite, magnitude}
use Rattle.number.proofs.KeyLaws.{le_key, magnitude_nonneg, magnitude_fits, magnitude_key}
use Rattle.order.specs.Magnitudes.{key_at}
use Rattle.keep.specs.Pruned.{large_flag}
use Rattle.keep.proofs.PruneLaws.{large_first, Number}
use Rattle.truncate.specs.Prunes.{protected_flags, prune_flags, prune}
use Rattle.std.specs.Prelude.{Ok}
use Rattle.truncate.proofs.ChecksLaws.{Room}
use Rattle.truncate.proofs.PruneLaws.{prune_room}
use Rattle.truncate.proofs.ThresholdLaws.{above_zero}
use Rattle.truncate_laws.specs.Keeps.{pruned_flags, Flagged, LargerStay, Fitting}
use Rattle.truncate_laws.proofs.AcceptedCalls.{prune_accepted, prune_finite}
use Rattle.truncate_laws.proofs.StaysLaws.{protected_long}
use Rattle.truncate_laws.proofs.LosesLaws.{ones_kept, number_of}

module _ (len : ℕ) (lanes : List ℕ) (coeffs : List Float) (order work fixed kept : List ℕ) (n : ℕ) (protected : List ℕ) (tol : Float) (r : ℕ)
    (answer : (prune len lanes coeffs order work fixed kept n protected tol).answer ≡ Ok r) (fit : Fitting coeffs) (F : T (fits binary64 tol)) where
  room : Room len lanes coeffs order work fixed kept n protected
  room = prune_room len lanes coeffs order work fixed kept n protected tol (prune_accepted len lanes coeffs order work fixed kept n protected tol r answer)

  finite : ((i : ℕ) → i < len → is_finite (get_or coeffs i nan) ≡ true) × (is_finite tol ≡ true)
  finite = prune_finite len lanes coeffs order work fixed kept n protected tol r answer

  tolerance : Number tol
  tolerance = number_of tol F finite.1

  number : (i : ℕ) → i < len → Number (get_or coeffs i nan)
  number i h = number_of (get_or coeffs i nan) (fit i (omega (arith, h, room.coeffs_room))) (finite.0 i h)

  guarded_long : length (protected_flags len lanes protected) ≡ len
  guarded_long = protected_long len lanes coeffs protected room.lanes_room

  le_is : T (nonneg tol) → (i : ℕ) → i < len → le tol (magnitude (get_or coeffs i nan)) ≡ leb (key binary64 tol) (key_at coeffs i)
  le_is h i l =
      let x = number i l in
      le_key binary64 tol (magnitude (get_or coeffs i nan)) F (magnitude_fits binary64 (get_or coeffs i nan) x.fits_f64) h (magnitude_nonneg (get_or coeffs i nan) x.no_nan)
      ∙ ap (leb (key binary64 tol)) (magnitude_key binary64 (get_or coeffs i nan))

  flag_is : (i : ℕ) → i < len → get_or (protected_flags len lanes protected) i 0 ≡ 0 → get_or (prune_flags len lanes coeffs protected tol) i 0 ≡ cond (le tol (magnitude (get_or coeffs i nan))) 1 0
  unfolding prune_flags large_flag
  flag_is i l z =
      large_first tol coeffs (protected_flags len lanes protected) len i l room.coeffs_room (omega (arith, guarded_long))
      ∙ ap (λ (k : ℕ). large_flag tol (get_or coeffs i nan) k) z

  is_large : (b : Bool) → (◌≡◌ {A = ℕ} (cond b 1 0) 0 → ⊥) → b ≡ true
  is_large true h = refl
  is_large false h = absurd (h refl)

  is_small : (b : Bool) → ◌≡◌ {A = ℕ} (cond b 1 0) 0 → b ≡ false
  is_small true h = absurd (omega (arith, h))
  is_small false h = refl

  pub prune_larger : LargerStay coeffs (protected_flags len lanes protected) (pruned_flags len lanes coeffs protected tol)
  unfolding pruned_flags
  prune_larger = record { larger = λ p q hp hq. go (le tol float0) refl p q (omega (arith, hp, guarded_long)) (omega (arith, hq, guarded_long)) }
    where
      go : (b : Bool) → le tol float0 ≡ b → (p q : ℕ) → p < len → q < len → get_or (protected_flags len lanes protected) p 0 ≡ 0 → get_or (protected_flags len lanes protected) q 0 ≡ 0
          → Flagged (cond b (replicate len 1) (prune_flags len lanes coeffs protected tol)) p
          → get_or (cond b (replicate len 1) (prune_flags len lanes coeffs protected tol)) q 0 ≡ 0 → (key_at coeffs q ≤ key_at coeffs p) × (key_at coeffs q ≡ key_at coeffs p → p < q)
      go true e p q hp hq fp fq k z = absurd (ones_kept len q hq z)
      go false e p q hp hq fp fq k z =
          let pos = above_zero tol tolerance.no_nan e in
          let a = leb-true (key binary64 tol) (key_at coeffs p) (sym (le_is pos p hp) ∙ is_large (le tol (magnitude (get_or coeffs p nan))) (λ y. k (flag_is p hp fp ∙ y))) in
          let b = leb-false (key binary64 tol) (key_at coeffs q) (sym (le_is pos q hq) ∙ is_small (le tol (magnitude (get_or coeffs q nan))) (sym (flag_is q hq fq) ∙ z)) in
          (omega (arith, a, b), λ s. absurd (omega (arith, a, b, s)))
