-- SPDX-FileCopyrightText: 2026 The PPVM Authors
-- SPDX-License-Identifier: Apache-2.0

-- How many entries a cap leaves, and that of the unprotected the larger stay. Assumes nothing.
use mathlib.Core.Path.{◌≡◌, sym, ap, subst, ◌∙◌}
use mathlib.Core.Bool.{Bool, true, false, cond}
use mathlib.Core.List.{List}
use Prim.Native.Nat.{ℕ, ◌-◌, ◌≤◌, ◌<◌, max}
use native.Mathlib.Omega.{arith}
use borrow.Author.Tests.{le-leb, lt-leb}
use lib.Dec.{leb}
use lib.Ieee.{Float, nan, binary64}
use lib.ListN.{length, get_or, take, replicate}
use lib.Seq.{length-take-le, get_or-take}
use Rattle.number.specs.Key.{key}
use Rattle.order.specs.Magnitudes.{by_magnitude, key_at}
use Rattle.keep.specs.Retained.{flagged}
use Rattle.order.specs.Between.{AllFinite}
use Rattle.keep.specs.Between.{EachOnce}
use Rattle.keep.proofs.ChosenLaws.{chosen_limit}
use Rattle.truncate.specs.Prunes.{protected_flags, cap_flags, cap_tests, cap}
use Rattle.std.specs.Prelude.{Ok}
use Rattle.keep.proofs.OrderOnce.{magnitude_once}
use Rattle.keep.proofs.LargestLaws.{chosen_larger}
use Rattle.truncate.proofs.ChecksLaws.{Room, front_finite}
use Rattle.truncate.proofs.CapLaws.{cap_room, cap_finite}
use Rattle.truncate_laws.specs.Keeps.{capped_flags, Flagged, LargerStay, Fitting}
use Rattle.truncate_laws.proofs.AcceptedCalls.{cap_accepted}
use Rattle.truncate_laws.proofs.StaysLaws.{ones_flagged, protected_long, cap_stays}
use Rattle.truncate_laws.proofs.LosesLaws.{ones_kept}
use Rattle.refusal.proofs.Told.{accepted_same}

module _ (len : ℕ) (lanes : List ℕ) (coeffs : List Float) (order work fixed kept : List ℕ) (n : ℕ) (protected : List ℕ) (limit r : ℕ)
    (answer : (cap len lanes coeffs order work fixed kept n protected limit).answer ≡ Ok r) where
  abbrev guarded : List ℕ
  guarded = protected_flags len lanes protected

  accepted : cap_tests len lanes coeffs order work fixed kept n protected limit ≡ Ok tt
  accepted = cap_accepted len lanes coeffs order work fixed kept n protected limit r answer

  room : Room len lanes coeffs order work fixed kept n protected
  room = cap_room len lanes coeffs order work fixed kept n protected limit accepted

  front_long : length (take len coeffs) ≡ len
  front_long = length-take-le len coeffs room.coeffs_room

  guarded_long : length guarded ≡ len
  guarded_long = protected_long len lanes coeffs protected room.lanes_room

  answer_is : r ≡ flagged (capped_flags len lanes coeffs protected limit)
  answer_is = accepted_same r (flagged (capped_flags len lanes coeffs protected limit)) (sym answer ∙ (cap_stays len lanes coeffs order work fixed kept n protected limit r answer).answers)

  -- a cap that acts leaves exactly so many entries
  pub cap_count : limit < len → r ≡ max limit (flagged (protected_flags len lanes protected))
  unfolding capped_flags cap_flags
  cap_count h =
      let once : EachOnce len (by_magnitude (take len coeffs)) = subst (λ (k : ℕ). EachOnce k (by_magnitude (take len coeffs))) front_long (magnitude_once (take len coeffs)) in
      answer_is
      ∙ ap (λ (b : Bool). flagged (cond b (replicate len 1) (cap_flags len lanes coeffs protected limit))) (lt-leb len limit h)
      ∙ chosen_limit len (by_magnitude (take len coeffs)) guarded once guarded_long limit h

  -- at or under the limit all stay
  pub cap_nothing : len ≤ limit → r ≡ len
  unfolding capped_flags
  cap_nothing h = answer_is ∙ ap (λ (b : Bool). flagged (cond b (replicate len 1) (cap_flags len lanes coeffs protected limit))) (le-leb len limit h) ∙ ones_flagged len

  pub cap_larger : Fitting coeffs → LargerStay coeffs (protected_flags len lanes protected) (capped_flags len lanes coeffs protected limit)
  unfolding capped_flags cap_flags
  cap_larger fit = record { larger = λ p q hp hq. go (leb len limit) p q (omega (arith, hp, guarded_long)) (omega (arith, hq, guarded_long)) }
    where
      finite : AllFinite (take len coeffs)
      finite = record {
        fitting = λ i h. rw (get_or-take len coeffs i nan (omega (arith, h, front_long))) (fit i (omega (arith, h, front_long, room.coeffs_room)));
        numbers = front_finite len coeffs room.coeffs_room (cap_finite len lanes coeffs order work fixed kept n protected limit accepted);
      }

      go : (b : Bool) (p q : ℕ) → p < len → q < len → get_or guarded p 0 ≡ 0 → get_or guarded q 0 ≡ 0 → Flagged (cond b (replicate len 1) (cap_flags len lanes coeffs protected limit)) p
          → get_or (cond b (replicate len 1) (cap_flags len lanes coeffs protected limit)) q 0 ≡ 0 → (key_at coeffs q ≤ key_at coeffs p) × (key_at coeffs q ≡ key_at coeffs p → p < q)
      go true p q hp hq fp fq k z = absurd (ones_kept len q hq z)
      go false p q hp hq fp fq k z =
          let a : key_at (take len coeffs) p ≡ key_at coeffs p = ap (key binary64) (get_or-take len coeffs p nan hp) in
          let b : key_at (take len coeffs) q ≡ key_at coeffs q = ap (key binary64) (get_or-take len coeffs q nan hq) in
          let s =
          chosen_larger (take len coeffs) finite guarded (guarded_long ∙ sym front_long) (limit - flagged guarded) p q (omega (arith, hp, front_long)) (omega (arith, hq, front_long)) fp fq k z in
          (omega (arith, s.0, a, b), λ (e : key_at coeffs q ≡ key_at coeffs p). s.1 (b ∙ e ∙ sym a))
