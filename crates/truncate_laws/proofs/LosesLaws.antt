-- SPDX-FileCopyrightText: 2026 The PPVM Authors
-- SPDX-License-Identifier: Apache-2.0

-- A lowered tolerance and a raised limit lose nobody: of two calls alike but for that, and for the places lent, the second keeps
-- every position that the first keeps; an admission appends every listed word that the first appends. Assumes nothing.
use mathlib.Core.Path.{◌≡◌, refl, sym, ap, ap₂, subst, ◌∙◌}
use mathlib.Core.Bool.{Bool, true, false, cond}
use mathlib.Core.List.{List, map}
use Prim.Native.Nat.{ℕ, ◌-◌, ◌*◌, ◌≤◌, ◌<◌}
use native.Mathlib.Omega.{arith}
use borrow.Author.Tests.{ltb-true, ltb-false, leb-true, leb-false}
use denote.Floats.{passes}
use lib.Dec.{T, ltb, leb}
use lib.Ieee.{Float, nan, binary64, fits, le, is_nan, of_bits}
use lib.Ieee.Bits.{of_bits-fits}
use lib.ListN.{length, get_or, take, replicate, length-replicate, get_or-replicate, get_or-eq_default}
use lib.Seq.{take_at, length-take-le, get_or-take}
use Rattle.word.specs.Flat.{words, word_lanes}
use Rattle.word.specs.declared.word.Word.{Word}
use Rattle.word.proofs.FlatLaws.{words_high}
use Rattle.number.specs.Floats.{float0, is_finite}
use Rattle.order.specs.Magnitudes.{by_magnitude}
use Rattle.order.specs.Places.{is_among}
use Rattle.keep.specs.Retained.{flagged}
use Rattle.keep.specs.Chosen.{chosen}
use Rattle.keep.specs.Pruned.{large_flags}
use Rattle.keep.proofs.ChosenLaws.{chosen_more}
use Rattle.keep.proofs.PruneLaws.{Number, prune_more}
use Rattle.truncate.specs.Prunes.{protected_flags, prune_flags, cap_flags, prune, cap}
use Rattle.truncate.specs.Admissions.{admit_flags, admit}
use Rattle.std.specs.Prelude.{Ok}
use Rattle.truncate.proofs.PruneLaws.{prune_room}
use Rattle.truncate.proofs.CapLaws.{cap_room}
use Rattle.truncate.proofs.AdmissionLaws.{flags_more, words_after, coeffs_after}
use Rattle.truncate.proofs.ThresholdLaws.{finite_number, lower_le, above_zero}
use Rattle.truncate_laws.specs.Keeps.{pruned_flags, capped_flags, Flagged, LosesNobody, Fitting}
use Rattle.truncate_laws.proofs.AcceptedCalls.{prune_accepted, prune_finite, cap_accepted, admit_lent}
use Rattle.truncate_laws.proofs.StaysLaws.{prune_long, cap_long}

-- ---- flags
flag_inside : (flags : List ℕ) (p : ℕ) → Flagged flags p → p < length flags
flag_inside flags p k = go (ltb p (length flags)) refl
  where
    go : (b : Bool) → ltb p (length flags) ≡ b → p < length flags
    go true e = ltb-true p (length flags) e
    go false e = absurd (k (get_or-eq_default flags 0 (ltb-false p (length flags) e)))

pub ones_kept : (n p : ℕ) → p < n → Flagged (replicate n 1) p
ones_kept n p h z = omega (arith, sym (get_or-replicate n p 1 0 h) ∙ z)

either_long : (b : Bool) (n : ℕ) (flags : List ℕ) → length flags ≡ n → length (cond b (replicate n 1) flags) ≡ n
either_long true n flags e = length-replicate n 1
either_long false n flags e = e

-- where the second call keeps all
all_kept : (b : Bool) (n : ℕ) (flags : List ℕ) → length flags ≡ n → (p : ℕ) → Flagged (cond b (replicate n 1) flags) p → Flagged (replicate n 1) p
all_kept b n flags e p k = ones_kept n p (omega (arith, either_long b n flags e, flag_inside (cond b (replicate n 1) flags) p k))

-- ---- numbers of the code
pub number_of : (x : Float) → T (fits binary64 x) → is_finite x ≡ true → Number x
number_of x f e = record { fits_f64 = f; no_nan = finite_number x e }

zero_number : Number float0
zero_number = record { fits_f64 = of_bits-fits binary64 0; no_nan = unfold is_nan of_bits in tt }

-- ---- prune
module _ (len : ℕ) (lanes : List ℕ) (coeffs : List Float) (protected : List ℕ) (room : word_lanes * len ≤ length lanes) (number : (i : ℕ) → i < length (take len coeffs) → Number (get_or (take len coeffs) i nan))
    (tol tol' : Float) (first : Number tol) (second : Number tol') (lowered : le tol' tol ≡ true) where
  pruned_more : LosesNobody (pruned_flags len lanes coeffs protected tol) (pruned_flags len lanes coeffs protected tol')
  unfolding pruned_flags prune_flags
  pruned_more = record { stays = go (le tol' float0) refl (le tol float0) refl }
    where
      go : (b' : Bool) → le tol' float0 ≡ b' → (b : Bool) → le tol float0 ≡ b → (p : ℕ) → Flagged (cond b (replicate len 1) (prune_flags len lanes coeffs protected tol)) p
          → Flagged (cond b' (replicate len 1) (prune_flags len lanes coeffs protected tol')) p
      go true e' b e p k = all_kept b len (prune_flags len lanes coeffs protected tol) (prune_long len lanes coeffs protected room tol) p k
      go false e' true e p k = absurd (passes false (sym e' ∙ lower_le tol' tol float0 second first zero_number lowered e))
      go false e' false e p k =
          prune_more tol' tol second.fits_f64 first.fits_f64 (above_zero tol' second.no_nan e') (above_zero tol first.no_nan e) lowered (take len coeffs) (protected_flags len lanes protected) number p k

-- ---- cap
module _ (len : ℕ) (lanes : List ℕ) (coeffs : List Float) (protected : List ℕ) (room : word_lanes * len ≤ length lanes) (limit limit' : ℕ) (raised : limit ≤ limit') where
  capped_more : LosesNobody (capped_flags len lanes coeffs protected limit) (capped_flags len lanes coeffs protected limit')
  unfolding capped_flags cap_flags
  capped_more = record { stays = go (leb len limit') refl (leb len limit) refl }
    where
      go : (b' : Bool) → leb len limit' ≡ b' → (b : Bool) → leb len limit ≡ b → (p : ℕ) → Flagged (cond b (replicate len 1) (cap_flags len lanes coeffs protected limit)) p
          → Flagged (cond b' (replicate len 1) (cap_flags len lanes coeffs protected limit')) p
      go true e' b e p k = all_kept b len (cap_flags len lanes coeffs protected limit) (cap_long len lanes coeffs protected room limit) p k
      go false e' true e p k = absurd (omega (arith, leb-true len limit e, leb-false len limit' e'))
      go false e' false e p k =
          let held : ℕ = flagged (protected_flags len lanes protected) in
          chosen_more (by_magnitude (take len coeffs)) (protected_flags len lanes protected) (limit - held) (limit' - held) (omega (arith, raised)) p k

-- ---- two lendings of one basis and one protected list: nothing behind the entries in use makes a difference
module _ (len len' : ℕ) (lanes lanes' : List ℕ) (coeffs coeffs' : List Float) (protected protected' : List ℕ) (same_len : len ≡ len')
    (same-words : take len (words lanes) ≡ take len' (words lanes')) (same-coeffs : take len coeffs ≡ take len' coeffs') (same-protected : words protected ≡ words protected') where
  guarded_same : protected_flags len lanes protected ≡ protected_flags len' lanes' protected'
  unfolding protected_flags
  guarded_same =
      ap (λ (ws : List Word). map (λ w. cond (is_among w (words protected)) 1 0) ws) same-words
      ∙ ap (λ (ps : List Word). map (λ w. cond (is_among w ps) 1 0) (take len' (words lanes'))) same-protected

  pub pruned_same : (tol : Float) → pruned_flags len lanes coeffs protected tol ≡ pruned_flags len' lanes' coeffs' protected' tol
  unfolding pruned_flags prune_flags
  pruned_same tol =
      ap₂ (λ (fixed : List ℕ) (xs : List Float). cond (le tol float0) (replicate len 1) (large_flags tol xs fixed)) guarded_same same-coeffs
      ∙ ap (λ (n : ℕ). cond (le tol float0) (replicate n 1) (large_flags tol (take len' coeffs') (protected_flags len' lanes' protected'))) same_len

  pub capped_same : (limit : ℕ) → capped_flags len lanes coeffs protected limit ≡ capped_flags len' lanes' coeffs' protected' limit
  unfolding capped_flags cap_flags
  capped_same limit =
      ap₂ (λ (fixed : List ℕ) (xs : List Float). cond (leb len limit) (replicate len 1) (chosen (by_magnitude xs) fixed (limit - flagged fixed))) guarded_same same-coeffs
      ∙ ap (λ (n : ℕ). cond (leb n limit) (replicate n 1) (chosen (by_magnitude (take len' coeffs')) (protected_flags len' lanes' protected') (limit - flagged (protected_flags len' lanes' protected')))) same_len

  -- ---- of two accepted calls over them, whatever work tables each was lent
  pub prune_loses_nobody : (fit : Fitting coeffs) (order work fixed kept order' work' fixed' kept' : List ℕ) (n n' : ℕ) (tol tol' : Float) → T (fits binary64 tol) → T (fits binary64 tol') → le tol' tol ≡ true → (r r' : ℕ)
      → (prune len lanes coeffs order work fixed kept n protected tol).answer ≡ Ok r
      → (prune len' lanes' coeffs' order' work' fixed' kept' n' protected' tol').answer ≡ Ok r'
      → LosesNobody (pruned_flags len lanes coeffs protected tol) (pruned_flags len' lanes' coeffs' protected' tol')
  prune_loses_nobody fit order work fixed kept order' work' fixed' kept' n n' tol tol' F F' lowered r r' answer answer' =
      let room = prune_room len lanes coeffs order work fixed kept n protected tol (prune_accepted len lanes coeffs order work fixed kept n protected tol r answer) in
      let finite = prune_finite len lanes coeffs order work fixed kept n protected tol r answer in
      let finite' = prune_finite len' lanes' coeffs' order' work' fixed' kept' n' protected' tol' r' answer' in
      let l = length-take-le len coeffs room.coeffs_room in
      let number : (i : ℕ) → i < length (take len coeffs) → Number (get_or (take len coeffs) i nan) =
      λ i h. rw (get_or-take len coeffs i nan (omega (arith, h, l))) (number_of (get_or coeffs i nan) (fit i (omega (arith, h, l, room.coeffs_room))) (finite.0 i (omega (arith, h, l)))) in
      subst (LosesNobody (pruned_flags len lanes coeffs protected tol)) (pruned_same tol')
      (pruned_more len lanes coeffs protected room.lanes_room number tol tol' (number_of tol F finite.1) (number_of tol' F' finite'.1) lowered)

  pub cap_loses_nobody : (order work fixed kept : List ℕ) (n limit limit' : ℕ) → limit ≤ limit' → (r : ℕ) → (cap len lanes coeffs order work fixed kept n protected limit).answer ≡ Ok r
      → LosesNobody (capped_flags len lanes coeffs protected limit) (capped_flags len' lanes' coeffs' protected' limit')
  cap_loses_nobody order work fixed kept n limit limit' raised r answer =
      let room = cap_room len lanes coeffs order work fixed kept n protected limit (cap_accepted len lanes coeffs order work fixed kept n protected limit r answer) in
      subst (LosesNobody (capped_flags len lanes coeffs protected limit)) (capped_same limit') (capped_more len lanes coeffs protected room.lanes_room limit limit' raised)

-- ---- admission, by place listed
pub admit_loses_nobody : (len : ℕ) (values : List Float) (limit limit' : ℕ) → limit ≤ limit' → LosesNobody (admit_flags len values limit) (admit_flags len values limit')
admit_loses_nobody len values limit limit' h = record { stays = flags_more len values limit limit' h }

-- the entries that stood stay where they were
module _ (len : ℕ) (lanes : List ℕ) (coeffs : List Float) (list : List ℕ) (values : List Float) (order work kept : List ℕ) (n limit r : ℕ)
    (answer : (admit len lanes coeffs list values order work kept n limit).answer ≡ Ok r) where
  pub words_stand : take len (words (admit len lanes coeffs list values order work kept n limit).lanes) ≡ take len (words lanes)
  words_stand =
      let room = admit_lent len lanes coeffs list values order work kept n limit r answer in
      ap (take len) (words_after len lanes coeffs list values order work kept n limit r answer)
      ∙ take_at (take len (words lanes)) _ len (length-take-le len (words lanes) (omega (arith, room.0, words_high lanes)))

  pub coeffs_stand : take len (admit len lanes coeffs list values order work kept n limit).coeffs ≡ take len coeffs
  coeffs_stand =
      let room = admit_lent len lanes coeffs list values order work kept n limit r answer in
      ap (take len) (coeffs_after len lanes coeffs list values order work kept n limit r answer)
      ∙ take_at (take len coeffs) _ len (length-take-le len coeffs room.1)
