-- SPDX-FileCopyrightText: 2026 The PPVM Authors
-- SPDX-License-Identifier: Apache-2.0

-- A model to which a matrix was added passes the test. Assumes nothing.
use mathlib.Core.Path.{◌≡◌, sym, ap, ◌∙◌, subst, subst⁻¹}
use mathlib.Core.Bool.{not}
use mathlib.Core.List.{List, [], ◌∷◌, ◌++◌}
use Prim.Native.Nat.{ℕ, ◌+◌, ◌*◌, ◌/◌, ◌%◌, ◌≤◌, ◌<◌}
use native.Mathlib.Omega.{arith}
use borrow.Author.Tests.{not-false}
use lib.Ieee.{Float, nan}
use lib.ListN.{length, get_or, length-map, length-append}
use Rattle.std.specs.Prelude.{Ok}
use Rattle.word.proofs.Sums.{or_left, or_right}
use Rattle.number.specs.Numbers.{Cx}
use Rattle.number.specs.Floats.{floats, in_range}
use Rattle.number.specs.Bounds.{AtMostC}
use Rattle.gksl.specs.Model.{entry_in}
use Rattle.sums.proofs.NumberLaws.{complexes_at}
use Rattle.model.specs.Stored.{ModelTables}
use Rattle.model.specs.Tested.{max_jumps, test_model}
use Rattle.model.specs.Fails.{number_fails}
use Rattle.model_build.specs.Given.{read_operator}
use Rattle.model_build.specs.Compiled.{Compiled}
use Rattle.lent.specs.Read.{got}
use Rattle.model.specs.Terms.{Term}
use Rattle.lent.specs.Laid.{laid, total}
use Rattle.model.specs.Stands.{InRange}
use Rattle.model.proofs.StandsLaws.{none_bad, tested_stands}
use Rattle.model_build.specs.Built.{entries_from, terms_of, rates_of, term_places}
use Rattle.lent.specs.Every.{Every}
use Rattle.lent.proofs.Lists.{every_at, every_weaken, every_append, every_map}
use Rattle.model_build.specs.Work.{operator_taken}
use Rattle.model.specs.declared.stored.Model.{Model}
use Rattle.lent.proofs.Passed.{both, counted_passed}
use Rattle.lent.proofs.Firsts.{NoneBefore}
use Rattle.model_build.proofs.Parts.{length_parts, length_complexes}
use Rattle.k_matrix.specs.Matrix.{is_pair, pair_places}
use Rattle.k_matrix.specs.Pairs.{range_of, pair_at, pairs_of}
use Rattle.k_matrix.specs.Added.{Input, operators, operators_given, matrix, max_operators, lengths_answer, read_operators, all_terms, matrix_tests, pairs_test, stored, compiled_matrix, add}
use Rattle.k_matrix.proofs.MatrixLaws.{row_below, column_below, entry_place, pairs_few}
use Rattle.k_matrix.proofs.MatrixLengths.{LengthsFit, lengths_fit}
use Rattle.kossakowski.proofs.PairsLaws.{range_fits}
use Rattle.kossakowski.proofs.AddLaws.{part_count, operators_are, all_are, all_length}
use Rattle.model_laws.specs.Extended.{Additions, larger, extended, Extends}
use Rattle.model_laws.proofs.ExtendedLaws.{extended_passes}
use Rattle.model_laws.proofs.FormedBounds.{in_range_at_most_c}
use Rattle.model_laws.proofs.ReadItems.{GivenGood, operator_read, each_every}
use Rattle.model_laws.proofs.Answered.{by_test, by_read, by_room}
use Rattle.model_laws.proofs.CompiledLaws.{TermGood, given_term, entries_length, terms_every}
use Rattle.model_laws.proofs.PairsGood.{Among, Placed, pair_terms, pair_placed, entries_placed, placed_good, passing_below}

-- ---- the terms of all operators
pub all_every : (P : Term → Type 0) (As : List (List Term)) → Every (Every P) As → Every P (all_terms As)
unfolding all_terms
all_every P [] h = tt
all_every P (A ∷ As) h = every_append P A (all_terms As) h.0 (all_every P As h.1)

module _ (m : Model) (i : Input) (t : ModelTables) (workWords : List ℕ) (workNumbers : List Float) where
  module _ (modelled : test_model m t ≡ Ok tt) (fit : LengthsFit m i t workWords workNumbers) (numbers : NoneBefore (number_fails i.k) (operators i * operators i))
      (As : List (List Term)) (read : read_operators m.qubits i ≡ got As) (few-pairs : m.jumps + length (pair_places floats (operators i) (matrix i)) ≤ max_jumps) where
    abbrev n : ℕ
    n = m.qubits

    abbrev cs : List Compiled
    cs = pairs_of m.terms i.counts (matrix i) As

    abbrev own : List Term
    own = all_terms As

    -- ---- the operators
    operators_good : Every (λ A. (length A ≤ 16) × Every (GivenGood n) A) As
    operators_good = each_every (λ A. (length A ≤ 16) × Every (GivenGood n) A) (read_operator n) (operator_read n) 0 (operators_given i) As read

    own_good : Every (GivenGood n) own
    own_good = all_every (GivenGood n) As (every_weaken _ (Every (GivenGood n)) (λ A h. h.1) As operators_good)

    own_number : length own ≡ total i.counts
    own_number = all_length n i As read fit.terms_counted fit.numbers_two ∙ sym fit.terms_counted

    operators_number : length As ≡ length i.counts
    operators_number = ap length (operators_are n i As read) ∙ length_parts i.counts (operator_taken n i.lengths i.texts i.numbers)

    module _ (j : ℕ) (l : j < length i.counts) where
      operator_good : (length (get_or As j []) ≤ 16) × Every (GivenGood n) (get_or As j [])
      operator_good = every_at (λ A. (length A ≤ 16) × Every (GivenGood n) A) As j [] operators_good (omega (arith, operators_number))

      operator_length : length (get_or As j []) ≡ get_or i.counts j 0
      operator_length =
          let L : List Term = operator_taken n i.lengths i.texts i.numbers in
          let e : length own ≡ length L = ap length (all_are n i As read fit.terms_counted fit.numbers_two) in
          ap (λ (Bs : List (List Term)). length (get_or Bs j [])) (operators_are n i As read) ∙ part_count i.counts L (omega (arith, e, own_number, fit.terms_counted)) j l

      operator_among : Among m.terms (length own) (length (get_or As j [])) (range_of m.terms i.counts j)
      operator_among = record { low = omega arith; count = omega (arith, operator_length); high = omega (arith, own_number, range_fits i.counts j l) }

    -- ---- K
    module _ (p : ℕ) (l : p < operators i * operators i) where
      abbrev entry : Cx floats
      entry = entry_in floats (operators i) (matrix i) (p / operators i) (p % operators i)

      number_ranged : InRange (record { re = get_or i.k (p * 2) nan; im = get_or i.k (p * 2 + 1) nan })
      unfolding number_fails
      number_ranged =
          let f = numbers p l in
          record { re = not-false _ (or_left _ _ f); im = not-false _ (or_right (not (in_range (get_or i.k (p * 2) nan))) _ f) }

      entry_is : entry ≡ record { re = get_or i.k (p * 2) nan; im = get_or i.k (p * 2 + 1) nan }
      entry_is =
          sym (entry_place (operators i) (matrix i) (length_complexes (operators i * operators i) i.k fit.entries_all) p l)
          ∙ complexes_at i.k p (omega (arith, fit.entries_all))

      entry_ranged : AtMostC 200 entry
      entry_ranged = in_range_at_most_c (subst⁻¹ InRange entry_is number_ranged)

      -- ---- a pair
      abbrev row : ℕ
      row = p / operators i

      abbrev column : ℕ
      column = p % operators i

      row_l : row < length i.counts
      row_l = row_below (operators i) p l

      column_l : column < length i.counts
      column_l = column_below (operators i) p l

      pair_good : Every (TermGood n) (pair_at m.terms i.counts (matrix i) As p).terms
      pair_good =
          let A = operator_good row row_l in
          let B = operator_good column column_l in
          pair_terms n entry entry_ranged (get_or As row []) (get_or As column []) A.0 B.0 A.1 B.1 (range_of m.terms i.counts row) (range_of m.terms i.counts column)

      pair_stands : (places : ℕ) → m.terms + length own ≤ places → (at : ℕ) → at + length (pair_at m.terms i.counts (matrix i) As p).terms ≤ places
          → Placed m.terms (length own) places ((pair_at m.terms i.counts (matrix i) As p).numbers at) (pair_at m.terms i.counts (matrix i) As p).rate
      pair_stands places room =
          pair_placed m.terms (length own) places room entry (range_of m.terms i.counts row) (range_of m.terms i.counts column) (get_or As row []) (get_or As column [])
          (operator_among row row_l) (operator_among column column_l)

    -- ---- all pairs
    each_pair : (P : Compiled → Type 0) → ((p : ℕ) → p < operators i * operators i → P (pair_at m.terms i.counts (matrix i) As p)) → Every P cs
    each_pair P h =
        every_map P (pair_at m.terms i.counts (matrix i) As) (pair_places floats (operators i) (matrix i))
        (every_weaken (λ p. p < 0 + operators i * operators i) (λ p. P (pair_at m.terms i.counts (matrix i) As p)) (λ p l. h p (omega arith)) (pair_places floats (operators i) (matrix i))
        (passing_below (is_pair floats (operators i) (matrix i)) 0 (operators i * operators i)))

    pairs_number : length cs ≡ length (pair_places floats (operators i) (matrix i))
    pairs_number = length-map (pair_places floats (operators i) (matrix i)) (pair_at m.terms i.counts (matrix i) As)

    rates_number : length (rates_of cs) ≡ length cs
    rates_number = length-map cs (λ (c : Compiled). c.rate)

    all_number : length (own ++ terms_of cs) ≡ length own + length (terms_of cs)
    all_number = length-append own (terms_of cs)

    abbrev added : Additions
    added = record { reals = []; entries = entries_from (m.terms + length own) cs; rates = rates_of cs; terms = own ++ terms_of cs }

    extends : m.terms + length (own ++ terms_of cs) ≤ term_places t → Extends m t added
    extends room =
        let s = tested_stands m t modelled in
        let entries-number = entries_length (m.terms + length own) cs in
        let f = pairs_few (operators i) (matrix i) in
        let places : ℕ = m.terms + length (own ++ terms_of cs) in
        record {
          rates_each = rates_number ∙ sym entries-number;
          reals = tt;
          entries = λ j l.
              placed_good m.terms own (terms_of cs) (get_or (entries_from (m.terms + length own) cs) j []) (get_or (rates_of cs) j nan)
              (every_weaken (GivenGood n) (λ z. InRange z.num) (λ z g. g.number) own own_good)
              (entries_placed m.terms (length own) places (m.terms + length own) cs (each_pair _ (λ p h. pair_stands p h places (omega (arith, all_number)))) (omega (arith, all_number)) j
              (omega (arith, l, entries-number)));
          terms = every_append (TermGood n) own (terms_of cs) (every_weaken (GivenGood n) (TermGood n) (given_term n) own own_good) (terms_every (TermGood n) cs (each_pair (λ c. Every (TermGood n) c.terms) pair_good));
          few_reals = omega (arith, s.few_reals);
          few_jumps = omega (arith, few-pairs, pairs_number, entries-number);
          h_words_room = omega (arith, s.h_words_room);
          h_coeffs_room = omega (arith, s.h_coeffs_room);
          jumps_room = omega (arith, f, pairs_number, entries-number, few-pairs, fit.jumps_room);
          rates_room = omega (arith, f, pairs_number, entries-number, few-pairs, fit.rates_room);
          t_words_room = omega (arith, room);
          t_numbers_room = omega (arith, room);
        }

    abbrev made : Model
    made = record { qubits = n; hamiltonian = m.hamiltonian; jumps = m.jumps + length cs; terms = m.terms + length (own ++ terms_of cs) }

    made_is : larger m added ≡ made
    made_is =
        let h : m.hamiltonian + 0 ≡ m.hamiltonian = omega arith in
        let j : m.jumps + length (entries_from (m.terms + length own) cs) ≡ m.jumps + length cs = omega (arith, entries_length (m.terms + length own) cs) in
        λ k. record { qubits = n; hamiltonian = h k; jumps = j k; terms = m.terms + length (own ++ terms_of cs) }

    made_passes : m.terms + length (own ++ terms_of cs) ≤ term_places t → test_model made (stored m i t workWords workNumbers As cs) ≡ Ok tt
    unfolding extended stored laid
    made_passes room = subst (λ (m' : Model). test_model m' (stored m i t workWords workNumbers As cs) ≡ Ok tt) made_is (extended_passes m t added modelled (extends room))

  -- what the tests before the operators settle
  tests_settle : matrix_tests m i t workWords workNumbers ≡ Ok tt
      → (test_model m t ≡ Ok tt) × LengthsFit m i t workWords workNumbers × NoneBefore (number_fails i.k) (operators i * operators i)
  unfolding matrix_tests
  tests_settle e =
      let e1 = both (test_model m t) _ e in
      let e2 = counted_passed max_operators (operators i) _ e1.1 in
      let e3 = both (lengths_answer m i t workWords workNumbers) _ e2.1 in
      let e4 = none_bad (operators i * operators i) (number_fails i.k) _ e3.1 in
      (e1.0, lengths_fit m i t workWords workNumbers e3.0, e4.0)

  -- a model to which a matrix was added passes the test
  pub added_passes : (m' : Model) → (add m i t workWords workNumbers).answer ≡ Ok m' → test_model m' (add m i t workWords workNumbers).tables ≡ Ok tt
  unfolding add
  added_passes =
      by_test t workWords workNumbers (matrix_tests m i t workWords workNumbers) _ (λ first.
      let s = tests_settle first in
      by_read t workWords workNumbers (read_operators m.qubits i) _ (λ As read.
      by_test t workWords workNumbers (pairs_test m i t workWords workNumbers) (compiled_matrix m i t workWords workNumbers As) (λ second.
      let cs : List Compiled = pairs_of m.terms i.counts (matrix i) As in
      let few = counted_passed max_jumps (m.jumps + length (pair_places floats (operators i) (matrix i))) (Ok tt) second in
      by_room t workWords workNumbers (term_places t) (m.terms + length (all_terms As ++ terms_of cs))
      (record { qubits = m.qubits; hamiltonian = m.hamiltonian; jumps = m.jumps + length cs; terms = m.terms + length (all_terms As ++ terms_of cs) }) (stored m i t workWords workNumbers As cs)
      (made_passes s.0 s.1 s.2 As read few.0))))
