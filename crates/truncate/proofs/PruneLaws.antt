-- SPDX-FileCopyrightText: 2026 The PPVM Authors
-- SPDX-License-Identifier: Apache-2.0

-- Prune, answer by answer; and what is left where entries are kept by flags. Assumes nothing.
use mathlib.Core.Path.{◌≡◌, sym, ◌∙◌}
use mathlib.Core.Bool.{Bool, true, false, not, cond}
use mathlib.Core.List.{List, ◌++◌}
use Prim.Native.Nat.{ℕ, ◌/◌, ◌≤◌, ◌<◌}
use native.Mathlib.Omega.{arith}
use borrow.Author.Tests.{lt-ltb, le-ltb, not-true, not-false}
use lib.Dec.{ltb}
use lib.Ieee.{Float, le}
use lib.ListN.{length, take, drop, replicate, length-append, length-take, length-drop}
use lib.Seq.{take_at, take_all, length-take-le}
use Rattle.refusal.specs.declared.Refusal.{Refusal}
use Rattle.refusal.specs.declared.Refusal.TheVariants.{TooManyQubits, CountAboveLimit, NumberOutOfRange}
use Rattle.std.specs.Prelude.{Ok, Err}
use Rattle.refusal.specs.Cause.{Answer}
use Rattle.word.specs.Flat.{word_lanes}
use Rattle.word.specs.Word.{max_qubits}
use Rattle.number.specs.Floats.{float0, is_finite}
use Rattle.keep.specs.Between.{Retains}
use Rattle.lent.proofs.Passed.{passed, both, counted_passed}
use Rattle.lent.specs.Words.{max_words}
use Rattle.lent.specs.Numbers.{finite_threshold}
use Rattle.truncate.specs.Prunes.{prune_flags, unchanged, left, retained, length_tests, entry_tests, prune_tests, prune}
use Rattle.truncate.proofs.ChecksLaws.{Room, lengths_then, lengths_room, entries_then}

-- ---- entries kept by flags
-- the front of a table that was lent, and the table's length
pub lent_front : (len : ℕ) (table ys : List ℕ) → len ≤ length table → length ys ≡ length (take len table) → take len (ys ++ drop len table) ≡ ys
lent_front len table ys h e = take_at ys (drop len table) len (e ∙ length-take-le len table h)

pub lent_long : (k : ℕ) (table ys : List ℕ) → length ys ≡ length (take k table) → length (ys ++ drop k table) ≡ length table
lent_long k table ys e = omega (arith, e, length-append ys (drop k table), length-take k table, length-drop k table)

pub retained_is : (len : ℕ) (lanes : List ℕ) (coeffs : List Float) (flags given : List ℕ) → given ≡ flags → length flags ≡ len
    → (r : ℕ) (lanes' : List ℕ) (coeffs' : List Float) → Retains len given lanes coeffs r lanes' coeffs'
    → (o w f k : List ℕ) → left len lanes coeffs o w f k r lanes' coeffs' ≡ retained len lanes coeffs o w f k flags
retained_is len lanes coeffs flags given same long r lanes' coeffs' R o w f k =
    let t : take len flags ≡ flags = take_all len flags (omega (arith, long)) in
    rw (R.answers, R.words_left, R.numbers_left, same, t)

-- ---- the tests
module _ (len : ℕ) (lanes : List ℕ) (coeffs : List Float) (order work fixed kept : List ℕ) (n : ℕ) (protected : List ℕ) (tol : Float) where
  abbrev tests : Answer
  tests = prune_tests len lanes coeffs order work fixed kept n protected tol

  abbrev count : ℕ
  count = length protected / word_lanes

  abbrev lengths : Answer → Answer
  lengths = length_tests len lanes coeffs order work fixed kept n protected

  abbrev entries : Answer → Answer
  entries = entry_tests len lanes coeffs order work fixed kept n protected

  pub qubits_many : max_qubits < n → Err (TooManyQubits n max_qubits) ≡ tests
  unfolding prune_tests
  qubits_many l = rw (lt-ltb max_qubits n l)

  module _ (h1 : n ≤ max_qubits) where
    pub entries_many : max_words < len → Err (CountAboveLimit len) ≡ tests
    unfolding prune_tests
    entries_many l = rw (le-ltb max_qubits n h1, lt-ltb max_words len l)

    module _ (h2 : len ≤ max_words) where
      pub protected_many : max_words < count → Err (CountAboveLimit count) ≡ tests
      unfolding prune_tests
      protected_many l = rw (le-ltb max_qubits n h1, le-ltb max_words len h2, lt-ltb max_words count l)

      module _ (h3 : count ≤ max_words) where
        after_counts : lengths (entries (finite_threshold len tol (Ok tt))) ≡ tests
        unfolding prune_tests
        after_counts = rw (le-ltb max_qubits n h1, le-ltb max_words len h2, le-ltb max_words count h3)

        pub lengths_refused : (r : Refusal) → lengths (Ok tt) ≡ Err r → Err r ≡ tests
        lengths_refused r e = sym (lengths_then len lanes coeffs order work fixed kept n protected (entries (finite_threshold len tol (Ok tt))) ∙ rw e) ∙ after_counts

        module _ (h4 : lengths (Ok tt) ≡ Ok tt) where
          after_lengths : entries (finite_threshold len tol (Ok tt)) ≡ tests
          after_lengths = sym (lengths_then len lanes coeffs order work fixed kept n protected (entries (finite_threshold len tol (Ok tt))) ∙ rw h4) ∙ after_counts

          pub entries_refused : (r : Refusal) → entries (Ok tt) ≡ Err r → Err r ≡ tests
          entries_refused r e = sym (entries_then len lanes coeffs n protected (finite_threshold len tol (Ok tt)) ∙ rw e) ∙ after_lengths

          module _ (h5 : entries (Ok tt) ≡ Ok tt) (b : Bool) (is : b ≡ is_finite tol) where
            after_entries : finite_threshold len tol (Ok tt) ≡ tests
            after_entries = sym (entries_then len lanes coeffs n protected (finite_threshold len tol (Ok tt)) ∙ rw h5) ∙ after_lengths

            pub threshold_bad : not b ≡ true → Err (NumberOutOfRange len) ≡ tests
            threshold_bad e = (rw (sym is, not-true b e)) ∙ after_entries

            pub prune_accepted : not b ≡ false → (Ok tt) ≡ tests
            prune_accepted e = (rw (sym is, not-false b e)) ∙ after_entries

  -- ---- the call
  pub prune_refused : (r : Refusal) → tests ≡ Err r → unchanged len lanes coeffs order work fixed kept r ≡ prune len lanes coeffs order work fixed kept n protected tol
  unfolding prune
  prune_refused r e = rw e

  module _ (ok : tests ≡ Ok tt) where
    pub prune_room : Room len lanes coeffs order work fixed kept n protected
    unfolding prune_tests
    prune_room =
        let e1 = passed (ltb max_qubits n) (TooManyQubits n max_qubits) _ ok in
        let e2 = counted_passed max_words len _ e1.1 in
        let e3 = counted_passed max_words count _ e2.1 in
        let e4 = both (lengths (Ok tt)) (entries (finite_threshold len tol (Ok tt))) (sym (lengths_then len lanes coeffs order work fixed kept n protected (entries (finite_threshold len tol (Ok tt)))) ∙ e3.1) in
        lengths_room len lanes coeffs order work fixed kept n protected e4.0

    pub prune_answered : (r : ℕ) (lanes' : List ℕ) (coeffs' : List Float) (order' work' fixed' kept' : List ℕ)
        → ((o w f k : List ℕ) → left len lanes coeffs o w f k r lanes' coeffs' ≡ cond (le tol float0) (left len lanes coeffs o w f k len lanes coeffs) (retained len lanes coeffs o w f k (prune_flags len lanes coeffs protected tol)))
        → order' ≡ replicate (length order) 0 → work' ≡ replicate (length work) 0 → fixed' ≡ replicate (length fixed) 0 → kept' ≡ replicate (length kept) 0
        → record { answer = Ok r; lanes = lanes'; coeffs = coeffs'; order = order'; work = work'; fixed = fixed'; kept = kept' } ≡ prune len lanes coeffs order work fixed kept n protected tol
    unfolding prune
    prune_answered r lanes' coeffs' order' work' fixed' kept' d eo ew ef ek = rw (ok, eo, ew, ef, ek) (d order work fixed kept)
