-- SPDX-FileCopyrightText: 2026 The PPVM Authors
-- SPDX-License-Identifier: Apache-2.0

-- What an admission appends: as many listed words as the limit leaves room for, the largest of them; and that a raised limit
-- appends at least the same. Assumes nothing.
use mathlib.Core.Path.{◌≡◌, sym, ap, ◌∙◌, refl}
use mathlib.Core.Bool.{Bool, true, false, cond, ◌||◌}
use mathlib.Core.List.{List, [], ◌∷◌, ◌++◌, map}
use Prim.Native.Nat.{ℕ, suc, ◌+◌, ◌-◌, ◌/◌, ◌≤◌, ◌<◌, min}
use native.Mathlib.Omega.{arith}
use borrow.Author.Tests.{ltb-false, eqb-true, eqb-false}
use denote.Floats.{passes}
use lib.Dec.{T, eqb, ltb}
use lib.Ieee.{Float, nan, fits, binary64}
use lib.ListN.{length, get_or, take, drop, replicate, length-map, length-replicate, get_or-replicate}
use lib.Seq.{take_all}
use Rattle.refusal.specs.declared.Refusal.{Refusal}
use Rattle.refusal.specs.declared.Refusal.TheVariants.{TableFull}
use Rattle.std.specs.Prelude.{Ok, Err}
use Rattle.refusal.specs.Cause.{Answer}
use Rattle.refusal.proofs.Told.{refused_not, accepted_same}
use Rattle.word.specs.Flat.{words, word_lanes}
use Rattle.word.specs.declared.word.Word.{Word}
use Rattle.number.specs.Floats.{float0, is_finite}
use Rattle.word.specs.Order.{same}
use Rattle.order.specs.Places.{is_among}
use Rattle.order.specs.Magnitudes.{by_magnitude, key_at}
use Rattle.keep.specs.Retained.{pick, flagged}
use Rattle.keep.specs.Chosen.{flag_of}
use Rattle.keep.specs.Admitted.{appended_lanes, appended_zeros, picked}
use Rattle.keep.proofs.FlagLaws.{Kept}
use Rattle.keep.proofs.ChosenLaws.{walked_length, chosen_more}
use Rattle.keep.proofs.LargestLaws.{chosen_larger}
use Rattle.keep.proofs.AdmitLaws.{picked_length, admitted_words}
use Rattle.truncate.specs.Admissions.{admit_flags, Admitting, tested, admit_tests, admit}
use Rattle.truncate.proofs.AdmitTests.{admit_passed}
use Rattle.truncate.proofs.AdmitLaws.{admit_count}
use Rattle.order.specs.Between.{AllFinite}
use Rattle.keep.specs.Between.{AdmitRoom}

-- ---- a flag for each listed word
flags_long : (len : ℕ) (values : List Float) (limit : ℕ) → length (admit_flags len values limit) ≡ length values
unfolding admit_flags
flags_long len values limit =
    let fixed : List ℕ = replicate (length values) 0 in
    walked_length fixed (by_magnitude values) (limit - len) (map flag_of fixed) ∙ length-map fixed flag_of ∙ length-replicate (length values) 0

-- ---- a call that accepts
module _ (len : ℕ) (lanes : List ℕ) (coeffs : List Float) (list : List ℕ) (values : List Float) (order work kept : List ℕ) (n limit : ℕ) where
  abbrev flags : List ℕ
  flags = admit_flags len values limit

  abbrev places : ℕ
  places = min (length lanes / word_lanes) (length coeffs)

  abbrev after : Admitting
  after = admit len lanes coeffs list values order work kept n limit

  abbrev new : List Word
  new = picked (length values) flags list

  split : (t : Answer) (b : Bool) (full done : Admitting) (q : Refusal) → full.answer ≡ Err q → (r : ℕ)
      → (tested len lanes coeffs list values order work kept t (cond b full done)).answer ≡ Ok r → (t ≡ Ok tt) × (b ≡ false)
  split (Err s) b full done q f r e = absurd (refused_not s r e)
  split (Ok _) true full done q f r e = absurd (refused_not q r (sym f ∙ e))
  split (Ok _) false full done q f r e = (refl, refl)

  module _ (r : ℕ) (entries : after.answer ≡ Ok r) where
    known : (admit_tests len lanes coeffs list values order work kept n limit ≡ Ok tt) × (ltb places (len + flagged flags) ≡ false)
    unfolding admit
    known = split (admit_tests len lanes coeffs list values order work kept n limit) (ltb places (len + flagged flags)) _ _ (TableFull 3 places) refl r entries

    whole : after ≡ record { answer = Ok (len + flagged flags); lanes = appended_lanes len new lanes; coeffs = appended_zeros len (flagged flags) coeffs; order = replicate (length order) 0; work = replicate (length work) 0; kept = replicate (length kept) 0 }
    unfolding admit
    whole = rw (known.0, known.1)

    all_flags : flagged (take (length values) flags) ≡ flagged flags
    all_flags = ap flagged (take_all (length values) flags (omega (arith, flags_long len values limit)))

    room : AdmitRoom len (length values) list flags lanes
    room =
        let p = admit_passed len lanes coeffs list values order work kept n limit known.0 in
        let f = ltb-false places (len + flagged flags) known.1 in
        record { listed = omega (arith, p.values_each); flags = omega (arith, flags_long len values limit); places = omega (arith, f, all_flags) }

    length_is : r ≡ len + flagged flags
    length_is = accepted_same r (len + flagged flags) (sym entries ∙ ap (λ (a : Admitting). a.answer) whole)

    new_length : length new ≡ flagged flags
    new_length = picked_length len (length values) list flags lanes room ∙ all_flags

    -- exactly as many words as the limit leaves room for, or all
    pub appended_count : length new ≡ min (limit - len) (length list / word_lanes)
    appended_count =
        let p = admit_passed len lanes coeffs list values order work kept n limit known.0 in
        omega (arith, new_length, admit_count len values limit, p.values_each)

    pub length_after : r ≡ len + length new
    length_after = omega (arith, length_is, new_length)

    pub words_after : words after.lanes ≡ take len (words lanes) ++ (new ++ drop r (words lanes))
    words_after =
        let e : len + flagged (take (length values) flags) ≡ r = omega (arith, all_flags, length_is) in
        ap (λ (a : Admitting). words a.lanes) whole ∙ admitted_words len (length values) list flags lanes room
        ∙ ap (λ (k : ℕ). take len (words lanes) ++ (new ++ drop k (words lanes))) e

    pub coeffs_after : after.coeffs ≡ take len coeffs ++ (replicate (length new) float0 ++ drop r coeffs)
    coeffs_after =
        ap (λ (a : Admitting). a.coeffs) whole ∙ ap (λ (k : ℕ). take len coeffs ++ (replicate k float0 ++ drop (len + flagged flags) coeffs)) (sym new_length)
        ∙ ap (λ (k : ℕ). take len coeffs ++ (replicate (length new) float0 ++ drop k coeffs)) (sym length_is)

    -- numbers that fit are compared exactly
    pub values_finite : ((i : ℕ) → i < length values → T (fits binary64 (get_or values i nan))) → AllFinite values
    values_finite fit =
        let p = admit_passed len lanes coeffs list values order work kept n limit known.0 in
        record { fitting = fit; numbers = λ i h. passes (is_finite (get_or values i nan)) (p.values_finite i h) }

-- ---- a raised limit
module _ (w : Word) where
  pick_more : (ks ks' : List ℕ) (l : List Word) → length ks ≡ length ks' → ((p : ℕ) → Kept ks p → Kept ks' p) → is_among w (pick ks l) ≡ true → is_among w (pick ks' l) ≡ true
  unfolding pick is_among
  pick_more [] [] l e h m = m
  pick_more [] (k' ∷ ks') l e h m = absurd (omega arith)
  pick_more (k ∷ ks) [] l e h m = absurd (omega arith)
  pick_more (k ∷ ks) (k' ∷ ks') [] e h m = m
  pick_more (k ∷ ks) (k' ∷ ks') (v ∷ l) e h m = go (eqb k 0) refl (eqb k' 0) refl m (pick_more ks ks' l (omega arith) (λ p. h (suc p)))
    where
      or_more : (b x y : Bool) → (x ≡ true → y ≡ true) → b || x ≡ true → b || y ≡ true
      or_more true x y f m = refl
      or_more false x y f m = f m

      or_right : (b y : Bool) → y ≡ true → b || y ≡ true
      or_right true y m = refl
      or_right false y m = m

      go : (a : Bool) → eqb k 0 ≡ a → (b : Bool) → eqb k' 0 ≡ b → is_among w (cond a (pick ks l) (v ∷ pick ks l)) ≡ true → (is_among w (pick ks l) ≡ true → is_among w (pick ks' l) ≡ true)
          → is_among w (cond b (pick ks' l) (v ∷ pick ks' l)) ≡ true
      go true s true t m i = i m
      go true s false t m i = or_right (same v w) (is_among w (pick ks' l)) (i m)
      go false s false t m i = or_more (same v w) (is_among w (pick ks l)) (is_among w (pick ks' l)) i m
      go false s true t m i = absurd (h 0 (eqb-false k 0 s) (eqb-true k' 0 t))

pub flags_more : (len : ℕ) (values : List Float) (limit limit' : ℕ) → limit ≤ limit' → (p : ℕ) → Kept (admit_flags len values limit) p → Kept (admit_flags len values limit') p
unfolding admit_flags
flags_more len values limit limit' h = chosen_more (by_magnitude values) (replicate (length values) 0) (limit - len) (limit' - len) (omega arith)

-- of two calls alike but for a raised limit, the second appends every word that the first appends
pub raised_limit : (len : ℕ) (list : List ℕ) (values : List Float) (limit limit' : ℕ) → limit ≤ limit' → (w : Word)
    → is_among w (picked (length values) (admit_flags len values limit) list) ≡ true → is_among w (picked (length values) (admit_flags len values limit') list) ≡ true
raised_limit len list values limit limit' h w =
    pick_more w (admit_flags len values limit) (admit_flags len values limit') (take (length values) (words list)) (flags_long len values limit ∙ sym (flags_long len values limit')) (flags_more len values limit limit' h)

-- ---- the largest first
-- a word that is appended is at least as large as one that is not, and listed before it where they are equal
pub larger_first : (len : ℕ) (values : List Float) (limit : ℕ) → AllFinite values → (p q : ℕ) → p < length values → q < length values
    → Kept (admit_flags len values limit) p → get_or (admit_flags len values limit) q 0 ≡ 0 → (key_at values q ≤ key_at values p) × (key_at values q ≡ key_at values p → p < q)
unfolding admit_flags
larger_first len values limit finite p q hp hq k z =
    let n : ℕ = length values in
    chosen_larger values finite (replicate n 0) (length-replicate n 0) (limit - len) p q hp hq (get_or-replicate n p 0 0 hp) (get_or-replicate n q 0 0 hq) k z
