-- SPDX-FileCopyrightText: 2026 The PPVM Authors
-- SPDX-License-Identifier: Apache-2.0

-- After a prune and a cap the basis is the flagged entries, in order; there is a flag for each entry, and in an admission one for
-- each listed word. Assumes nothing.
use mathlib.Core.Path.{◌≡◌, refl, ap, sym, ◌∙◌}
use mathlib.Core.Bool.{Bool, true, false, cond}
use mathlib.Core.List.{List, [], ◌∷◌, map}
use Prim.Native.Nat.{ℕ, zero, suc, ◌-◌, ◌*◌, ◌≤◌}
use native.Mathlib.Omega.{arith}
use lib.Dec.{leb}
use lib.Ieee.{Float, le}
use lib.ListN.{length, take, replicate, length-map, length-replicate}
use lib.Seq.{take_at, take_all, length-take-le}
use Rattle.word.specs.Flat.{words, word_lanes}
use Rattle.word.specs.declared.word.Word.{Word}
use Rattle.word.proofs.FlatLaws.{words_high}
use Rattle.number.specs.Floats.{float0}
use Rattle.order.specs.Magnitudes.{by_magnitude}
use Rattle.order.specs.Places.{is_among}
use Rattle.keep.specs.Retained.{pick, flagged}
use Rattle.keep.specs.Chosen.{flag_of}
use Rattle.keep.proofs.PickLaws.{pick_length}
use Rattle.keep.proofs.RetainLaws.{retained_words}
use Rattle.keep.proofs.PruneLaws.{large_length}
use Rattle.keep.proofs.ChosenLaws.{walked_length}
use Rattle.truncate.specs.Prunes.{protected_flags, prune_flags, cap_flags, left, retained, prune, cap}
use Rattle.truncate.specs.Admissions.{admit_flags}
use Rattle.std.specs.Prelude.{Ok}
use Rattle.truncate.proofs.PruneLaws.{prune_room}
use Rattle.truncate.proofs.CapLaws.{cap_room}
use Rattle.truncate_laws.specs.Keeps.{pruned_flags, capped_flags, Stays}
use Rattle.truncate_laws.proofs.AcceptedCalls.{prune_accepted, cap_accepted}

-- ---- all flags raised
pub ones_flagged : (n : ℕ) → flagged (replicate n 1) ≡ n
unfolding flagged
ones_flagged zero = refl
ones_flagged (suc n) = ap suc (ones_flagged n)

ones_pick : {A : Type 0} (n : ℕ) (l : List A) → length l ≤ n → pick (replicate n 1) l ≡ l
unfolding pick
ones_pick zero [] h = refl
ones_pick zero (a ∷ l) h = absurd (omega arith)
ones_pick (suc n) [] h = refl
ones_pick {A} (suc n) (a ∷ l) h = ap (λ (t : List A). a ∷ t) (ones_pick n l (omega arith))

-- ---- a flag for each entry
module _ (len : ℕ) (lanes : List ℕ) (coeffs : List Float) (protected : List ℕ) (room : word_lanes * len ≤ length lanes) where
  entries_long : length (take len (words lanes)) ≡ len
  entries_long = length-take-le len (words lanes) (omega (arith, room, words_high lanes))

  pub protected_long : length (protected_flags len lanes protected) ≡ len
  unfolding protected_flags
  protected_long = length-map (take len (words lanes)) (λ (w : Word). cond (is_among w (words protected)) 1 0) ∙ entries_long

  pub prune_long : (tol : Float) → length (prune_flags len lanes coeffs protected tol) ≡ len
  unfolding prune_flags
  prune_long tol = large_length tol (take len coeffs) (protected_flags len lanes protected) ∙ protected_long

  pub cap_long : (limit : ℕ) → length (cap_flags len lanes coeffs protected limit) ≡ len
  unfolding cap_flags
  cap_long limit =
      let fixed : List ℕ = protected_flags len lanes protected in
      walked_length fixed (by_magnitude (take len coeffs)) (limit - flagged fixed) (map flag_of fixed) ∙ length-map fixed flag_of ∙ protected_long

-- one for each listed word
pub admit_long : (len : ℕ) (values : List Float) (limit : ℕ) → length (admit_flags len values limit) ≡ length values
unfolding admit_flags
admit_long len values limit =
    let fixed : List ℕ = replicate (length values) 0 in
    walked_length fixed (by_magnitude values) (limit - len) (map flag_of fixed) ∙ length-map fixed flag_of ∙ length-replicate (length values) 0

-- ---- what is left by flags, and where nothing is done
module _ (len : ℕ) (lanes : List ℕ) (coeffs : List Float) (order work fixed kept : List ℕ) (lanes-room : word_lanes * len ≤ length lanes) (coeffs-room : len ≤ length coeffs) where
  all_stay : Stays len lanes coeffs (replicate len 1) (left len lanes coeffs order work fixed kept len lanes coeffs)
  all_stay =
      let c : flagged (replicate len 1) ≡ len = ones_flagged len in
      let w = length-take-le len (words lanes) (omega (arith, lanes-room, words_high lanes)) in
      let l = length-take-le len coeffs coeffs-room in
      record {
        each = length-replicate len 1;
        answers = ap Ok (sym c);
        words_kept = ap (λ (k : ℕ). take k (words lanes)) c ∙ sym (ones_pick len (take len (words lanes)) (omega (arith, w)));
        coeffs_kept = ap (λ (k : ℕ). take k coeffs) c ∙ sym (ones_pick len (take len coeffs) (omega (arith, l)));
      }

  flags_stay : (flags : List ℕ) → length flags ≡ len → Stays len lanes coeffs flags (retained len lanes coeffs order work fixed kept flags)
  flags_stay flags e =
      let w = length-take-le len (words lanes) (omega (arith, lanes-room, words_high lanes)) in
      let l = length-take-le len coeffs coeffs-room in
      let picked_words : length (pick flags (take len (words lanes))) ≡ flagged flags =
      pick_length flags (take len (words lanes)) (omega (arith, w, e)) ∙ ap flagged (take_all (length (take len (words lanes))) flags (omega (arith, w, e))) in
      let picked-numbers : length (pick flags (take len coeffs)) ≡ flagged flags =
      pick_length flags (take len coeffs) (omega (arith, l, e)) ∙ ap flagged (take_all (length (take len coeffs)) flags (omega (arith, l, e))) in
      record {
        each = e;
        answers = refl;
        words_kept = ap (take (flagged flags)) (retained_words len flags lanes) ∙ take_at (pick flags (take len (words lanes))) _ (flagged flags) picked_words;
        coeffs_kept = take_at (pick flags (take len coeffs)) _ (flagged flags) picked-numbers;
      }

  either_stays : (b : Bool) (flags : List ℕ) → length flags ≡ len
      → Stays len lanes coeffs (cond b (replicate len 1) flags) (cond b (left len lanes coeffs order work fixed kept len lanes coeffs) (retained len lanes coeffs order work fixed kept flags))
  either_stays true flags e = all_stay
  either_stays false flags e = flags_stay flags e

-- ---- the calls
module _ (len : ℕ) (lanes : List ℕ) (coeffs : List Float) (order work fixed kept : List ℕ) (n : ℕ) (protected : List ℕ) where
  pub prune_stays : (tol : Float) (r : ℕ) → (prune len lanes coeffs order work fixed kept n protected tol).answer ≡ Ok r
      → Stays len lanes coeffs (pruned_flags len lanes coeffs protected tol) (prune len lanes coeffs order work fixed kept n protected tol)
  unfolding prune pruned_flags
  prune_stays tol r e =
      let ok = prune_accepted len lanes coeffs order work fixed kept n protected tol r e in
      let room = prune_room len lanes coeffs order work fixed kept n protected tol ok in
      rw ok
      (either_stays len lanes coeffs order work fixed kept room.lanes_room room.coeffs_room (le tol float0) (prune_flags len lanes coeffs protected tol) (prune_long len lanes coeffs protected room.lanes_room tol))

  pub cap_stays : (limit r : ℕ) → (cap len lanes coeffs order work fixed kept n protected limit).answer ≡ Ok r
      → Stays len lanes coeffs (capped_flags len lanes coeffs protected limit) (cap len lanes coeffs order work fixed kept n protected limit)
  unfolding cap capped_flags
  cap_stays limit r e =
      let ok = cap_accepted len lanes coeffs order work fixed kept n protected limit r e in
      let room = cap_room len lanes coeffs order work fixed kept n protected limit ok in
      rw ok
      (either_stays len lanes coeffs order work fixed kept room.lanes_room room.coeffs_room (leb len limit) (cap_flags len lanes coeffs protected limit) (cap_long len lanes coeffs protected room.lanes_room limit))
