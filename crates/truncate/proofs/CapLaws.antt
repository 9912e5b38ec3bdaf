-- SPDX-FileCopyrightText: 2026 The PPVM Authors
-- SPDX-License-Identifier: Apache-2.0

-- Cap, answer by answer; and its flags. Assumes nothing.
use mathlib.Core.Path.{◌≡◌, sym, ◌∙◌}
use mathlib.Core.Bool.{true, cond}
use mathlib.Core.List.{List}
use Prim.Native.Nat.{ℕ, ◌-◌, ◌/◌, ◌≤◌, ◌<◌}
use borrow.Author.Tests.{lt-ltb, le-ltb}
use lib.Dec.{ltb, leb}
use lib.Ieee.{Float, nan}
use lib.ListN.{length, get_or, replicate}
use Rattle.refusal.specs.declared.Refusal.{Refusal}
use Rattle.refusal.specs.declared.Refusal.TheVariants.{TooManyQubits, CountAboveLimit}
use Rattle.std.specs.Prelude.{Ok, Err}
use Rattle.refusal.specs.Cause.{Answer}
use Rattle.word.specs.Flat.{word_lanes}
use Rattle.word.specs.Word.{max_qubits}
use Rattle.number.specs.Floats.{is_finite}
use Rattle.order.specs.Magnitudes.{by_magnitude}
use Rattle.keep.specs.Retained.{flagged}
use Rattle.keep.specs.Chosen.{chosen}
use Rattle.lent.proofs.Passed.{passed, both, counted_passed}
use Rattle.lent.specs.Words.{max_words}
use Rattle.truncate.specs.Prunes.{cap_flags, unchanged, left, retained, length_tests, entry_tests, cap_tests, cap}
use Rattle.truncate.proofs.ChecksLaws.{Room, lengths_then, lengths_room, entries_finite}

pub slots_filled : (coeffs : List Float) (fixed flags : List ℕ) (limit held slots : ℕ) → held ≡ flagged fixed → slots ≡ limit - held → flags ≡ chosen (by_magnitude coeffs) fixed slots
    → flags ≡ chosen (by_magnitude coeffs) fixed (limit - flagged fixed)
slots_filled coeffs fixed flags limit held slots eh es e = e ∙ rw (es, eh)

-- ---- the tests
module _ (len : ℕ) (lanes : List ℕ) (coeffs : List Float) (order work fixed kept : List ℕ) (n : ℕ) (protected : List ℕ) (limit : ℕ) where
  abbrev tests : Answer
  tests = cap_tests len lanes coeffs order work fixed kept n protected limit

  abbrev count : ℕ
  count = length protected / word_lanes

  abbrev lengths : Answer → Answer
  lengths = length_tests len lanes coeffs order work fixed kept n protected

  abbrev entries : Answer → Answer
  entries = entry_tests len lanes coeffs order work fixed kept n protected

  pub qubits_many : max_qubits < n → Err (TooManyQubits n max_qubits) ≡ tests
  unfolding cap_tests
  qubits_many l = rw (lt-ltb max_qubits n l)

  module _ (h1 : n ≤ max_qubits) where
    pub entries_many : max_words < len → Err (CountAboveLimit len) ≡ tests
    unfolding cap_tests
    entries_many l = rw (le-ltb max_qubits n h1, lt-ltb max_words len l)

    module _ (h2 : len ≤ max_words) where
      pub protected_many : max_words < count → Err (CountAboveLimit count) ≡ tests
      unfolding cap_tests
      protected_many l = rw (le-ltb max_qubits n h1, le-ltb max_words len h2, lt-ltb max_words count l)

      module _ (h3 : count ≤ max_words) where
        pub limit_many : max_words < limit → Err (CountAboveLimit limit) ≡ tests
        unfolding cap_tests
        limit_many l = rw (le-ltb max_qubits n h1, le-ltb max_words len h2, le-ltb max_words count h3, lt-ltb max_words limit l)

        module _ (h4 : limit ≤ max_words) where
          after_counts : lengths (entries (Ok tt)) ≡ tests
          unfolding cap_tests
          after_counts = rw (le-ltb max_qubits n h1, le-ltb max_words len h2, le-ltb max_words count h3, le-ltb max_words limit h4)

          pub lengths_refused : (r : Refusal) → lengths (Ok tt) ≡ Err r → Err r ≡ tests
          lengths_refused r e = sym (lengths_then len lanes coeffs order work fixed kept n protected (entries (Ok tt)) ∙ rw e) ∙ after_counts

          pub entries_answer : lengths (Ok tt) ≡ Ok tt → entries (Ok tt) ≡ tests
          entries_answer e = sym (lengths_then len lanes coeffs order work fixed kept n protected (entries (Ok tt)) ∙ rw e) ∙ after_counts

  -- ---- the call
  pub cap_refused : (r : Refusal) → tests ≡ Err r → unchanged len lanes coeffs order work fixed kept r ≡ cap len lanes coeffs order work fixed kept n protected limit
  unfolding cap
  cap_refused r e = rw e

  module _ (ok : tests ≡ Ok tt) where
    passed_both : (lengths (Ok tt) ≡ Ok tt) × (entries (Ok tt) ≡ Ok tt)
    unfolding cap_tests
    passed_both =
        let e1 = passed (ltb max_qubits n) (TooManyQubits n max_qubits) _ ok in
        let e2 = counted_passed max_words len _ e1.1 in
        let e3 = counted_passed max_words count _ e2.1 in
        let e4 = counted_passed max_words limit _ e3.1 in
        both (lengths (Ok tt)) (entries (Ok tt)) (sym (lengths_then len lanes coeffs order work fixed kept n protected (entries (Ok tt))) ∙ e4.1)

    pub cap_room : Room len lanes coeffs order work fixed kept n protected
    cap_room = lengths_room len lanes coeffs order work fixed kept n protected passed_both.0

    pub cap_finite : (i : ℕ) → i < len → is_finite (get_or coeffs i nan) ≡ true
    cap_finite = entries_finite len lanes coeffs n protected passed_both.1

    pub cap_answered : (r : ℕ) (lanes' : List ℕ) (coeffs' : List Float) (order' work' fixed' kept' : List ℕ)
        → ((o w f k : List ℕ) → left len lanes coeffs o w f k r lanes' coeffs' ≡ cond (leb len limit) (left len lanes coeffs o w f k len lanes coeffs) (retained len lanes coeffs o w f k (cap_flags len lanes coeffs protected limit)))
        → order' ≡ replicate (length order) 0 → work' ≡ replicate (length work) 0 → fixed' ≡ replicate (length fixed) 0 → kept' ≡ replicate (length kept) 0
        → record { answer = Ok r; lanes = lanes'; coeffs = coeffs'; order = order'; work = work'; fixed = fixed'; kept = kept' } ≡ cap len lanes coeffs order work fixed kept n protected limit
    unfolding cap
    cap_answered r lanes' coeffs' order' work' fixed' kept' d eo ew ef ek = rw (ok, eo, ew, ef, ek) (d order work fixed kept)
