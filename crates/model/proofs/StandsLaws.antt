-- SPDX-FileCopyrightText: 2026 The PPVM Authors
-- SPDX-License-Identifier: Apache-2.0

-- A lent model passes the test exactly if it stands. Assumes nothing.
use mathlib.Core.Path.{◌≡◌, refl, sym, ◌∙◌}
use mathlib.Core.Bool.{Bool, true, false, not, ◌&&◌, ◌||◌, true≢false}
use Prim.Native.Nat.{ℕ, ◌+◌, ◌*◌, ◌/◌, ◌≤◌, ◌<◌}
use native.Mathlib.Omega.{arith}
use borrow.Author.Tests.{ltb-false, le-ltb, not-false}
use lib.Dec.{ltb}
use lib.Ieee.{nan}
use lib.ListN.{get_or, length}
use Rattle.refusal.specs.declared.Refusal.TheVariants.{TooManyQubits, NumberOutOfRange}
use Rattle.std.specs.Prelude.{Ok}
use Rattle.refusal.specs.Cause.{Answer}
use Rattle.word.specs.Word.{max_qubits, identity}
use Rattle.word.specs.Register.{reaches}
use Rattle.word.specs.Flat.{words, word_lanes}
use Rattle.word.proofs.Sums.{or_left, or_right}
use Rattle.number.specs.Floats.{in_range, bounded}
use Rattle.model.specs.Stored.{ModelTables, kind_at, jump_at, given}
use Rattle.model.specs.Tested.{max_hamiltonian, max_jumps, bad_real, bad_jump, bad_entry, is_given, bad_term, test_model}
use Rattle.model.specs.declared.stored.Model.{Model}
use Rattle.lent.specs.Tests.{first_to, entries}
use Rattle.lent.proofs.Firsts.{NoneBefore, first_none, first_before}
use Rattle.lent.proofs.OneTest.{counted_within, lent_enough, entries_passed}
use Rattle.lent.proofs.Passed.{passed, lent_passed, counted_passed}
use Rattle.model.proofs.TestOrder.{qubits_within, terms_on, jumps_on, hamiltonian_on, term_numbers_on, term_words_on, rates_on, jump_numbers_on, coefficients_on, words_on, jump_count_on}
use Rattle.model.specs.Stands.{InRange, GoodReal, GoodTerm, number_at, Stands}
use Rattle.word.proofs.CountLaws.{any_one, any_some}

-- ---- tests
second : (a b : Bool) → (a && b) ≡ false → a ≡ true → b ≡ false
second true b h e = h
second false b h e = absurd (true≢false (sym e))

pub none_bad : (n : ℕ) (f : ℕ → Bool) (after : Answer) → entries n f after ≡ Ok tt → NoneBefore f n × (after ≡ Ok tt)
unfolding entries
none_bad n f after e =
    let p = passed (ltb (first_to n f) n) (NumberOutOfRange (first_to n f)) after e in
    let l = ltb-false (first_to n f) n p.0 in
    ((λ k h. first_before n f k (omega arith)), p.1)

-- ---- an item that passes, and what it is
module _ (m : Model) (t : ModelTables) where
  real_good : (i : ℕ) → bad_real m.qubits t i ≡ false → GoodReal m.qubits (get_or (words t.h_words) i identity) (get_or t.h_coeffs i nan)
  unfolding bad_real
  real_good i e = record { below = or_left _ _ e; range = not-false _ (or_right (reaches (get_or (words t.h_words) i identity) m.qubits) _ e) }

  good_real : (i : ℕ) → GoodReal m.qubits (get_or (words t.h_words) i identity) (get_or t.h_coeffs i nan) → bad_real m.qubits t i ≡ false
  unfolding bad_real
  good_real i g = rw (g.below, g.range)

  entry_good : (j : ℕ) → bad_entry m.terms t j ≡ false → (kind_at t.jumps j ≤ 2) × (bad_jump m.terms (jump_at t.jumps t.rates j) ≡ false)
  unfolding bad_entry
  entry_good j e = (ltb-false 2 (kind_at t.jumps j) (or_left _ _ e), or_right (ltb 2 (kind_at t.jumps j)) _ e)

  good_entry : (j : ℕ) → kind_at t.jumps j ≤ 2 → bad_jump m.terms (jump_at t.jumps t.rates j) ≡ false → bad_entry m.terms t j ≡ false
  unfolding bad_entry
  good_entry j h k = rw (le-ltb 2 (kind_at t.jumps j) h) k

  -- the parts of a term's test
  module _ (i : ℕ) (e : bad_term m.qubits m.jumps t i ≡ false) where
    abbrev re_fails : Bool
    re_fails = not (bounded (get_or t.t_numbers (i * 2) nan))

    abbrev im_fails : Bool
    im_fails = not (bounded (get_or t.t_numbers (i * 2 + 1) nan))

    abbrev range_fails : Bool
    range_fails = not (in_range (get_or t.t_numbers (i * 2) nan)) || not (in_range (get_or t.t_numbers (i * 2 + 1) nan))

    term_parts : (reaches (get_or (words t.t_words) i identity) m.qubits ≡ false) × (re_fails ≡ false) × (im_fails ≡ false) × ((is_given m.jumps t i && range_fails) ≡ false)
    unfolding bad_term
    term_parts =
        let b = or_right (reaches (get_or (words t.t_words) i identity) m.qubits) (re_fails || (im_fails || (is_given m.jumps t i && range_fails))) e in
        let c = or_right re_fails (im_fails || (is_given m.jumps t i && range_fails)) b in
        (or_left _ _ e, or_left _ _ b, or_left _ _ c, or_right im_fails (is_given m.jumps t i && range_fails) c)

    term_good : GoodTerm m.qubits (get_or (words t.t_words) i identity) (number_at t.t_numbers i)
    term_good = record { below = term_parts.0; bound = record { re = not-false _ term_parts.1; im = not-false _ term_parts.2 } }

    given_good : (j : ℕ) → j < m.jumps → given (jump_at t.jumps t.rates j) i ≡ true → InRange (number_at t.t_numbers i)
    unfolding is_given
    given_good j l h =
        let f = second (is_given m.jumps t i) range_fails term_parts.3 (any_one m.jumps (λ j. given (jump_at t.jumps t.rates j) i) j l h) in
        record { re = not-false _ (or_left _ _ f); im = not-false _ (or_right (not (in_range (get_or t.t_numbers (i * 2) nan))) _ f) }

  good_term : (i : ℕ) → GoodTerm m.qubits (get_or (words t.t_words) i identity) (number_at t.t_numbers i)
      → ((j : ℕ) → j < m.jumps → given (jump_at t.jumps t.rates j) i ≡ true → InRange (number_at t.t_numbers i)) → bad_term m.qubits m.jumps t i ≡ false
  unfolding bad_term is_given
  good_term i g h = rw (g.below, g.bound.re, g.bound.im) (go (is_given m.jumps t i) refl)
    where
      go : (b : Bool) → is_given m.jumps t i ≡ b → (b && (not (in_range (get_or t.t_numbers (i * 2) nan)) || not (in_range (get_or t.t_numbers (i * 2 + 1) nan)))) ≡ false
      go false e = refl
      go true e =
          let s = any_some m.jumps (λ j. given (jump_at t.jumps t.rates j) i) e in
          let r = h s.0 s.1 s.2 in
          rw (r.re, r.im)

  -- ---- all of them
  pub tested_stands : test_model m t ≡ Ok tt → Stands m t
  unfolding test_model
  tested_stands e =
      let e0 = passed (ltb max_qubits m.qubits) (TooManyQubits m.qubits max_qubits) _ e in
      let e1 = counted_passed max_hamiltonian m.hamiltonian _ e0.1 in
      let e2 = counted_passed max_jumps m.jumps _ e1.1 in
      let e3 = lent_passed m.hamiltonian (length t.h_words / word_lanes) _ e2.1 in
      let e4 = lent_passed m.hamiltonian (length t.h_coeffs) _ e3.1 in
      let e5 = lent_passed m.jumps (length t.jumps / 8) _ e4.1 in
      let e6 = lent_passed m.jumps (length t.rates) _ e5.1 in
      let e7 = lent_passed m.terms (length t.t_words / word_lanes) _ e6.1 in
      let e8 = lent_passed m.terms (length t.t_numbers / 2) _ e7.1 in
      let e9 = none_bad m.hamiltonian (bad_real m.qubits t) _ e8.1 in
      let e10 = none_bad m.jumps (bad_entry m.terms t) _ e9.1 in
      let e11 = none_bad m.terms (bad_term m.qubits m.jumps t) _ e10.1 in
      record {
        qubits = ltb-false max_qubits m.qubits e0.0;
        few_reals = e1.0;
        few_jumps = e2.0;
        h_words_room = omega (arith, e3.0);
        h_coeffs_room = e4.0;
        jumps_room = omega (arith, e5.0);
        rates_room = e6.0;
        t_words_room = omega (arith, e7.0);
        t_numbers_room = omega (arith, e8.0);
        reals = λ i l. real_good i (e9.0 i l);
        kinds = λ j l. (entry_good j (e10.0 j l)).0;
        fits = λ j l. (entry_good j (e10.0 j l)).1;
        terms = λ i l. term_good i (e11.0 i l);
        givens = λ i l j k h. given_good i (e11.0 i l) j k h;
      }

  pub stands_tested : Stands m t → test_model m t ≡ Ok tt
  stands_tested s =
      sym (entries_passed m.terms (bad_term m.qubits m.jumps t) (Ok tt) (sym (first_none m.terms _ (λ i l. good_term i (s.terms i l) (s.givens i l)))) (omega arith)
      ∙ entries_passed m.jumps (bad_entry m.terms t) (terms_on m t) (sym (first_none m.jumps _ (λ j l. good_entry j (s.kinds j l) (s.fits j l)))) (omega arith)
      ∙ entries_passed m.hamiltonian (bad_real m.qubits t) (jumps_on m t) (sym (first_none m.hamiltonian _ (λ i l. good_real i (s.reals i l)))) (omega arith)
      ∙ lent_enough m.terms (length t.t_numbers / 2) (hamiltonian_on m t) (omega (arith, s.t_numbers_room))
      ∙ lent_enough m.terms (length t.t_words / word_lanes) (term_numbers_on m t) (omega (arith, s.t_words_room))
      ∙ lent_enough m.jumps (length t.rates) (term_words_on m t) s.rates_room
      ∙ lent_enough m.jumps (length t.jumps / 8) (rates_on m t) (omega (arith, s.jumps_room))
      ∙ lent_enough m.hamiltonian (length t.h_coeffs) (jump_numbers_on m t) s.h_coeffs_room
      ∙ lent_enough m.hamiltonian (length t.h_words / word_lanes) (coefficients_on m t) (omega (arith, s.h_words_room))
      ∙ counted_within max_jumps m.jumps (words_on m t) s.few_jumps
      ∙ counted_within max_hamiltonian m.hamiltonian (jump_count_on m t) s.few_reals
      ∙ qubits_within m t s.qubits)
