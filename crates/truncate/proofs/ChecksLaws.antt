-- SPDX-FileCopyrightText: 2026 The PPVM Authors
-- SPDX-License-Identifier: Apache-2.0

-- The tests that prune and cap ask alike, answer by answer; and what is known where they are passed. Assumes nothing.
use mathlib.Core.Path.{◌≡◌, refl, sym}
use mathlib.Core.Bool.{Bool, true, false, cond}
use mathlib.Core.List.{List}
use Prim.Native.Nat.{ℕ, zero, suc, ◌+◌, ◌*◌, ◌/◌, ◌≤◌, ◌<◌, max}
use native.Mathlib.Omega.{arith}
use borrow.Author.Tests.{lt-ltb, le-ltb, ltb-false, not-false}
use denote.Floats.{passes}
use lib.Dec.{eqb, ltb}
use lib.Ieee.{Float, nan}
use lib.ListN.{length, get_or, take}
use lib.Seq.{length-take-le, get_or-take}
use Rattle.refusal.specs.declared.Refusal.{Refusal}
use Rattle.refusal.specs.declared.Refusal.TheVariants.{LengthMismatch, NumberOutOfRange, WordOutsideRegister}
use Rattle.std.specs.Prelude.{Ok, Err}
use Rattle.refusal.specs.Cause.{Answer}
use Rattle.word.specs.Flat.{word_lanes}
use Rattle.number.specs.Floats.{is_finite}
use Rattle.order.specs.Between.{AreFinite}
use Rattle.lent.specs.Tests.{where_any, first_to, and_then}
use Rattle.lent.proofs.NeedLaws.{need_some}
use Rattle.lent.proofs.Firsts.{first_before}
use Rattle.lent.proofs.Passed.{passed, equal_passed, lent_passed}
use Rattle.lent.specs.Words.{outside_at, inside_to}
use Rattle.lent.specs.Numbers.{not_finite, finite_to}
use Rattle.truncate.specs.Prunes.{length_tests}

-- tests before others answer as they do alone, or as the others
module _ (r1 r2 r3 : Refusal) (after : Answer) where
  three_then : (b1 b2 b3 : Bool) → cond b1 (Err r1) (cond b2 (Err r2) (cond b3 (Err r3) after)) ≡ and_then (cond b1 (Err r1) (cond b2 (Err r2) (cond b3 (Err r3) (Ok tt)))) after
  three_then true b2 b3 = refl
  three_then false true b3 = refl
  three_then false false true = refl
  three_then false false false = refl

  module _ (r4 r5 r6 r7 : Refusal) where
    seven_then : (b1 b2 b3 b4 b5 b6 b7 : Bool)
        → cond b1 (Err r1) (cond b2 (Err r2) (cond b3 (cond b4 (Err r4) (cond b5 (Err r5) (cond b6 (Err r6) (cond b7 (Err r7) after)))) (Err r3)))
        ≡ and_then (cond b1 (Err r1) (cond b2 (Err r2) (cond b3 (cond b4 (Err r4) (cond b5 (Err r5) (cond b6 (Err r6) (cond b7 (Err r7) (Ok tt))))) (Err r3)))) after
    seven_then true b2 b3 b4 b5 b6 b7 = refl
    seven_then false true b3 b4 b5 b6 b7 = refl
    seven_then false false false b4 b5 b6 b7 = refl
    seven_then false false true true b5 b6 b7 = refl
    seven_then false false true false true b6 b7 = refl
    seven_then false false true false false true b7 = refl
    seven_then false false true false false false true = refl
    seven_then false false true false false false false = refl

-- a place for each entry
entries_asked : (len count : ℕ) → len ≤ where_any len (max len count)
unfolding where_any
entries_asked zero count = omega arith
entries_asked (suc len) count = omega arith

module _ (len : ℕ) (lanes : List ℕ) (coeffs : List Float) (order work fixed kept : List ℕ) (n : ℕ) (protected : List ℕ) where
  abbrev tests : Answer → Answer
  tests = length_tests len lanes coeffs order work fixed kept n protected

  abbrev count : ℕ
  count = length protected / word_lanes

  pub lengths_then : (after : Answer) → tests after ≡ and_then (tests (Ok tt)) after
  lengths_then after =
      seven_then (LengthMismatch len (length lanes / word_lanes)) (LengthMismatch len (length coeffs)) (LengthMismatch (count * word_lanes) (length protected)) after (LengthMismatch (where_any len (max len count)) (length order)) (LengthMismatch (where_any len (max len count)) (length work)) (LengthMismatch len (length fixed)) (LengthMismatch len (length kept))
      (ltb (length lanes / word_lanes) len) (ltb (length coeffs) len) (eqb (length protected) (count * word_lanes)) (ltb (length order) (where_any len (max len count))) (ltb (length work) (where_any len (max len count))) (ltb (length fixed) len) (ltb (length kept) len)

  pub lanes_short : length lanes / word_lanes < len → Err (LengthMismatch len (length lanes / word_lanes)) ≡ tests (Ok tt)
  lanes_short l = rw (lt-ltb (length lanes / word_lanes) len l)

  module _ (h1 : len ≤ length lanes / word_lanes) where
    pub coeffs_short : length coeffs < len → Err (LengthMismatch len (length coeffs)) ≡ tests (Ok tt)
    coeffs_short l = rw (le-ltb (length lanes / word_lanes) len h1, lt-ltb (length coeffs) len l)

    module _ (h2 : len ≤ length coeffs) where
      pub protected_over : eqb (length protected) (count * word_lanes) ≡ false → Err (LengthMismatch (count * word_lanes) (length protected)) ≡ tests (Ok tt)
      protected_over e = rw (le-ltb (length lanes / word_lanes) len h1, le-ltb (length coeffs) len h2, e)

      module _ (four : eqb (length protected) (count * word_lanes) ≡ true) (places : ℕ) (is : places ≡ where_any len (max len count)) where
        pub order_short : length order < places → Err (LengthMismatch places (length order)) ≡ tests (Ok tt)
        order_short l = rw (le-ltb (length lanes / word_lanes) len h1, le-ltb (length coeffs) len h2, four, sym is, lt-ltb (length order) places l)

        module _ (h3 : places ≤ length order) where
          pub work_short : length work < places → Err (LengthMismatch places (length work)) ≡ tests (Ok tt)
          work_short l = rw (le-ltb (length lanes / word_lanes) len h1, le-ltb (length coeffs) len h2, four, sym is, le-ltb (length order) places h3, lt-ltb (length work) places l)

          module _ (h4 : places ≤ length work) where
            pub fixed_short : length fixed < len → Err (LengthMismatch len (length fixed)) ≡ tests (Ok tt)
            fixed_short l = rw (le-ltb (length lanes / word_lanes) len h1, le-ltb (length coeffs) len h2, four, sym is, le-ltb (length order) places h3, le-ltb (length work) places h4, lt-ltb (length fixed) len l)

            module _ (h5 : len ≤ length fixed) where
              pub kept_short : length kept < len → Err (LengthMismatch len (length kept)) ≡ tests (Ok tt)
              kept_short l =
                  rw (le-ltb (length lanes / word_lanes) len h1, le-ltb (length coeffs) len h2, four, sym is, le-ltb (length order) places h3, le-ltb (length work) places h4, le-ltb (length fixed) len h5, lt-ltb (length kept) len l)

              pub lengths_accepted : len ≤ length kept → (Ok tt) ≡ tests (Ok tt)
              lengths_accepted l =
                  rw (le-ltb (length lanes / word_lanes) len h1, le-ltb (length coeffs) len h2, four, sym is, le-ltb (length order) places h3, le-ltb (length work) places h4, le-ltb (length fixed) len h5, le-ltb (length kept) len l)

  -- ---- what is known where the lengths are passed
  pub record Room : Type 0 where
    pub lanes_room : word_lanes * len ≤ length lanes
    pub coeffs_room : len ≤ length coeffs
    pub protected_whole : count * word_lanes ≡ length protected
    pub order_entries : len ≤ length order
    pub order_protected : 0 < len → count ≤ length order
    pub work_entries : len ≤ length work
    pub work_protected : 0 < len → count ≤ length work
    pub fixed_room : len ≤ length fixed
    pub kept_room : len ≤ length kept

  pub lengths_room : tests (Ok tt) ≡ Ok tt → Room
  lengths_room e =
      let e1 = lent_passed len (length lanes / word_lanes) _ e in
      let e2 = lent_passed len (length coeffs) _ e1.1 in
      let e3 = equal_passed (count * word_lanes) (length protected) _ e2.1 in
      let e4 = lent_passed (where_any len (max len count)) (length order) _ e3.1 in
      let e5 = lent_passed (where_any len (max len count)) (length work) _ e4.1 in
      let e6 = lent_passed len (length fixed) _ e5.1 in
      let e7 = lent_passed len (length kept) _ e6.1 in
      record {
        lanes_room = omega (arith, e1.0);
        coeffs_room = e2.0;
        protected_whole = sym e3.0;
        order_entries = omega (arith, e4.0, entries_asked len count);
        order_protected = λ h. omega (arith, need_some len (max len count) (length order) h e4.0);
        work_entries = omega (arith, e5.0, entries_asked len count);
        work_protected = λ h. omega (arith, need_some len (max len count) (length work) h e5.0);
        fixed_room = e6.0;
        kept_room = e7.0;
      }

-- ---- words and coefficients
pub front_finite : (len : ℕ) (coeffs : List Float) → len ≤ length coeffs → ((i : ℕ) → i < len → is_finite (get_or coeffs i nan) ≡ true) → AreFinite (take len coeffs)
front_finite len coeffs room f i h =
    let l : i < len = omega (arith, h, length-take-le len coeffs room) in
    rw (get_or-take len coeffs i nan l) (passes (is_finite (get_or coeffs i nan)) (f i l))

module _ (len : ℕ) (lanes : List ℕ) (coeffs : List Float) (n : ℕ) (protected : List ℕ) where
  abbrev places : ℕ
  places = length protected / word_lanes

  abbrev entries : Answer → Answer
  entries after = inside_to len lanes n (inside_to places protected n (finite_to 0 len coeffs after))

  pub entries_then : (after : Answer) → entries after ≡ and_then (entries (Ok tt)) after
  unfolding inside_to finite_to
  entries_then after =
      let a : ℕ = first_to len (outside_at lanes n) in
      let b : ℕ = first_to places (outside_at protected n) in
      let d : ℕ = first_to len (not_finite coeffs) in
      three_then (WordOutsideRegister a) (WordOutsideRegister b) (NumberOutOfRange (0 + d)) after (ltb a len) (ltb b places) (ltb d len)

  -- where they are passed the coefficients are finite
  pub entries_finite : entries (Ok tt) ≡ Ok tt → (i : ℕ) → i < len → is_finite (get_or coeffs i nan) ≡ true
  unfolding inside_to finite_to not_finite
  entries_finite e i h =
      let outside : ℕ = first_to len (outside_at lanes n) in
      let stray : ℕ = first_to places (outside_at protected n) in
      let bad : ℕ = first_to len (not_finite coeffs) in
      let e1 = passed (ltb outside len) (WordOutsideRegister outside) _ e in
      let e2 = passed (ltb stray places) (WordOutsideRegister stray) _ e1.1 in
      let e3 = passed (ltb bad len) (NumberOutOfRange (0 + bad)) _ e2.1 in
      let l = ltb-false bad len e3.0 in
      not-false (is_finite (get_or coeffs i nan)) (first_before len (not_finite coeffs) i (omega (arith, l, h)))

  module _ (a : ℕ) (a-is : a ≡ first_to len (outside_at lanes n)) where
    pub word_outside : a < len → Err (WordOutsideRegister a) ≡ entries (Ok tt)
    unfolding inside_to
    word_outside l = rw (sym a-is, lt-ltb a len l)

    module _ (h1 : len ≤ a) (b : ℕ) (b-is : b ≡ first_to places (outside_at protected n)) where
      pub protected_outside : b < places → Err (WordOutsideRegister b) ≡ entries (Ok tt)
      unfolding inside_to
      protected_outside l = rw (sym a-is, le-ltb a len h1, sym b-is, lt-ltb b places l)

      module _ (h2 : places ≤ b) (d : ℕ) (d-is : d ≡ first_to len (not_finite coeffs)) where
        pub coefficient_bad : d < len → Err (NumberOutOfRange d) ≡ entries (Ok tt)
        unfolding inside_to finite_to
        coefficient_bad l =
            let z : 0 + d ≡ d = omega arith in
            rw (sym a-is, le-ltb a len h1, sym b-is, le-ltb b places h2, sym d-is, lt-ltb d len l, z)

        pub entries_accepted : len ≤ d → (Ok tt) ≡ entries (Ok tt)
        unfolding inside_to finite_to
        entries_accepted l = rw (sym a-is, le-ltb a len h1, sym b-is, le-ltb b places h2, sym d-is, le-ltb d len l)
