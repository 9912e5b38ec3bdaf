-- SPDX-FileCopyrightText: 2026 The PPVM Authors
-- SPDX-License-Identifier: Apache-2.0

-- What is known of a prune, a cap and an admission that answer with entries: all tests are passed, so the coefficients are
-- finite, and there is a place for each. Assumes nothing.
use Rattle.std.specs.Prelude.{Result}
use mathlib.Core.Path.{◌≡◌, refl, sym, ◌∙◌}
use mathlib.Core.Bool.{Bool, true, false, cond}
use mathlib.Core.List.{List}
use Prim.Native.Nat.{ℕ, ◌*◌, ◌/◌, ◌≤◌, ◌<◌}
use native.Mathlib.Omega.{arith}
use lib.Dec.{ltb}
use lib.Ieee.{Float, nan}
use lib.ListN.{length, get_or}
use Rattle.refusal.specs.declared.Refusal.{Refusal}
use Rattle.refusal.specs.declared.Refusal.TheVariants.{TooManyQubits, NumberOutOfRange}
use Rattle.std.specs.Prelude.{Ok, Err}
use Rattle.refusal.specs.Cause.{Answer}
use Rattle.refusal.proofs.Told.{refused_not}
use Rattle.word.specs.Flat.{word_lanes}
use Rattle.word.specs.Word.{max_qubits}
use Rattle.number.specs.Floats.{is_finite}
use Rattle.lent.proofs.Passed.{passed, both, lent_passed, counted_passed}
use Rattle.lent.specs.Words.{max_words}
use Rattle.lent.specs.Numbers.{finite_threshold}
use Rattle.truncate.specs.Prunes.{Keeping, tested, length_tests, entry_tests, prune_tests, cap_tests, prune, cap}
use Rattle.truncate.specs.Admissions as Admissions
use Rattle.truncate.proofs.ChecksLaws.{lengths_then, entries_then, entries_finite}
use Rattle.truncate.proofs.AdmitTests.{admit_passed}

pub entries_same : (a b : ℕ) → ◌≡◌ {A = Result ℕ Refusal} (Ok a) (Ok b) → a ≡ b
entries_same a b e = cc

threshold_passed : (b : Bool) (r : Refusal) → ◌≡◌ {A = Answer} (cond b (Ok tt) (Err r)) (Ok tt) → b ≡ true
threshold_passed true r e = refl
threshold_passed false r e = absurd (refused_not r tt e)

module _ (len : ℕ) (lanes : List ℕ) (coeffs : List Float) (order work fixed kept : List ℕ) (n : ℕ) (protected : List ℕ) where
  abbrev lengths : Answer → Answer
  lengths = length_tests len lanes coeffs order work fixed kept n protected

  abbrev entries : Answer → Answer
  entries = entry_tests len lanes coeffs order work fixed kept n protected

  abbrev Finite : Type 0
  Finite = (i : ℕ) → i < len → is_finite (get_or coeffs i nan) ≡ true

  accepted : (t : Answer) (after : Keeping) (r : ℕ) → (tested len lanes coeffs order work fixed kept t after).answer ≡ Ok r → t ≡ Ok tt
  accepted (Ok _) after r e = refl
  accepted (Err q) after r e = absurd (refused_not q r e)

  module _ (tol : Float) (r : ℕ) (answer : (prune len lanes coeffs order work fixed kept n protected tol).answer ≡ Ok r) where
    pub prune_accepted : prune_tests len lanes coeffs order work fixed kept n protected tol ≡ Ok tt
    unfolding prune
    prune_accepted = accepted (prune_tests len lanes coeffs order work fixed kept n protected tol) _ r answer

    pub prune_finite : Finite × (is_finite tol ≡ true)
    unfolding prune_tests
    prune_finite =
        let after : Answer = finite_threshold len tol (Ok tt) in
        let e1 = passed (ltb max_qubits n) (TooManyQubits n max_qubits) _ prune_accepted in
        let e2 = counted_passed max_words len _ e1.1 in
        let e3 = counted_passed max_words (length protected / word_lanes) _ e2.1 in
        let e4 = both (lengths (Ok tt)) (entries after) (sym (lengths_then len lanes coeffs order work fixed kept n protected (entries after)) ∙ e3.1) in
        let e5 = both (entries (Ok tt)) after (sym (entries_then len lanes coeffs n protected after) ∙ e4.1) in
        (entries_finite len lanes coeffs n protected e5.0, threshold_passed (is_finite tol) (NumberOutOfRange len) e5.1)

  module _ (limit : ℕ) (r : ℕ) (answer : (cap len lanes coeffs order work fixed kept n protected limit).answer ≡ Ok r) where
    pub cap_accepted : cap_tests len lanes coeffs order work fixed kept n protected limit ≡ Ok tt
    unfolding cap
    cap_accepted = accepted (cap_tests len lanes coeffs order work fixed kept n protected limit) _ r answer

-- ---- admission
module _ (len : ℕ) (lanes : List ℕ) (coeffs : List Float) (list : List ℕ) (values : List Float) (order work kept : List ℕ) (n limit r : ℕ)
    (answer : (Admissions.admit len lanes coeffs list values order work kept n limit).answer ≡ Ok r) where
  admit_tested : (t : Answer) (after : Admissions.Admitting) → (Admissions.tested len lanes coeffs list values order work kept t after).answer ≡ Ok r → t ≡ Ok tt
  admit_tested (Ok _) after e = refl
  admit_tested (Err q) after e = absurd (refused_not q r e)

  admit_accepted : Admissions.admit_tests len lanes coeffs list values order work kept n limit ≡ Ok tt
  unfolding Admissions.admit
  admit_accepted = admit_tested (Admissions.admit_tests len lanes coeffs list values order work kept n limit) _ answer

  pub admit_lent : (word_lanes * len ≤ length lanes) × (len ≤ length coeffs)
  unfolding Admissions.admit_tests
  admit_lent =
      let e1 = passed (ltb max_qubits n) (TooManyQubits n max_qubits) _ admit_accepted in
      let e2 = counted_passed max_words len _ e1.1 in
      let e3 = counted_passed max_words (length list / word_lanes) _ e2.1 in
      let e4 = counted_passed max_words limit _ e3.1 in
      let e5 = lent_passed len (length lanes / word_lanes) _ e4.1 in
      let e6 = lent_passed len (length coeffs) _ e5.1 in
      (omega (arith, e5.0), e6.0)

  -- a value for each listed word
  pub admit_each : length values ≡ length list / word_lanes
  admit_each = (admit_passed len lanes coeffs list values order work kept n limit admit_accepted).values_each
