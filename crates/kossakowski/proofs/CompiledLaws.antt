-- SPDX-FileCopyrightText: 2026 The PPVM Authors
-- SPDX-License-Identifier: Apache-2.0

-- An accepted matrix is compiled: each step has the room that it asks for, and the last leaves what adding is defined to
-- leave. Assumes nothing.
use mathlib.Core.Path.{◌≡◌, sym, ap, ◌∙◌, subst}
use mathlib.Core.List.{List, [], ◌∷◌}
use Prim.Native.Nat.{ℕ, suc, ◌+◌, ◌*◌, ◌/◌, ◌≤◌, ◌<◌, min}
use native.Mathlib.Nat.{suc-mul}
use native.Mathlib.Omega.{arith}
use lib.Dec.{ltb}
use lib.Ieee.{Float}
use lib.ListN.{length, get_or, replicate, length-map}
use Rattle.refusal.specs.declared.Refusal.TheVariants.{TooManyQubits, TableFull}
use Rattle.std.specs.Prelude.{Ok, Err}
use Rattle.word.specs.Flat.{word_lanes}
use Rattle.word.specs.Word.{max_qubits}
use Rattle.number.specs.Numbers.{largest_over}
use Rattle.number.specs.Floats.{floats, float0}
use Rattle.model.specs.Stored.{ModelTables}
use Rattle.model.specs.Tested.{max_hamiltonian, max_jumps, test_model}
use Rattle.model.specs.Terms.{Term, terms_in}
use Rattle.model_build.specs.Built.{terms_of}
use Rattle.lent.specs.Laid.{total}
use Rattle.model_build.specs.Thinned.{LaysTerms, StoreRoom}
use Rattle.model_build.specs.Work.{operator_in, operator_taken, ReadRoom, TextsFit, JumpsRoom, StoresJumps}
use Rattle.model.specs.declared.stored.Model.{Model}
use Rattle.lent.proofs.Passed.{passed, counted_passed, lent_passed}
use Rattle.lent.proofs.NeedLaws.{need_some}
use Rattle.operator_product.proofs.WorkLaws.{terms_stay}
use Rattle.k_matrix.specs.Matrix.{pair_places}
use Rattle.k_matrix.specs.Pairs.{pairs_of}
use Rattle.k_matrix.specs.Added.{Input, operators, matrix, work_needed, all_terms, add}
use Rattle.k_matrix.specs.Work.{Square, OperatorsRoom, operators_in, WorkStays}
use Rattle.k_matrix.proofs.MatrixLaws.{pairs_few}
use Rattle.kossakowski.proofs.MatrixAccepted.{Accepts}
use Rattle.kossakowski.proofs.AddLaws.{operators_are, all_are, all_length, counts_few, operators_in_lem, operators_stay, added_none, added_full, added_model}

-- a model that passes its test counts no more terms than there are places
pub terms_inside : (m : Model) (t : ModelTables) → test_model m t ≡ Ok tt → (m.terms ≤ length t.t_words / word_lanes) × (m.terms ≤ length t.t_numbers / 2)
unfolding test_model
terms_inside m t e =
    let e1 = passed (ltb max_qubits m.qubits) (TooManyQubits m.qubits max_qubits) _ e in
    let e2 = counted_passed max_hamiltonian m.hamiltonian _ e1.1 in
    let e3 = counted_passed max_jumps m.jumps _ e2.1 in
    let e4 = lent_passed m.hamiltonian (length t.h_words / word_lanes) _ e3.1 in
    let e5 = lent_passed m.hamiltonian (length t.h_coeffs) _ e4.1 in
    let e6 = lent_passed m.jumps (length t.jumps / 8) _ e5.1 in
    let e7 = lent_passed m.jumps (length t.rates) _ e6.1 in
    let e8 = lent_passed m.terms (length t.t_words / word_lanes) _ e7.1 in
    let e9 = lent_passed m.terms (length t.t_numbers / 2) _ e8.1 in
    (e8.0, e9.0)

-- numbers of at most n
pub total_most : (n : ℕ) (ns : List ℕ) → ((j : ℕ) → get_or ns j 0 ≤ n) → total ns ≤ length ns * n
unfolding total
total_most n [] h = omega arith
total_most n (k ∷ ns) h = omega (arith, h 0, total_most n ns (λ j. h (suc j)), suc-mul (length ns) n)

module _ (m : Model) (i : Input) (t : ModelTables) (workWords : List ℕ) (workNumbers : List Float) (a : Accepts m i t workWords workNumbers) where
  abbrev own : ℕ
  own = length i.lengths

  few : (j : ℕ) → get_or i.counts j 0 ≤ 16
  few = counts_few m.qubits i a.As a.read a.lengths.terms_counted a.lengths.numbers_two

  pub own_few : own ≤ 1024
  own_few = omega (arith, total_most 16 i.counts few, a.lengths.terms_counted, a.few)

  -- where there is an operator, a work place for each term past those of the sums
  own_places : 0 < operators i → (places : ℕ) → work_needed (operators i) own ≤ places → 256 + own ≤ places
  own_places some places room = omega (arith, need_some (operators i) _ places some room, total_most 16 i.counts few, a.lengths.terms_counted)

  words_places : 0 < operators i → 256 + own ≤ length workWords / word_lanes
  words_places some = own_places some (length workWords / word_lanes) a.lengths.work_words_room

  numbers_places : 0 < operators i → 256 + own ≤ length workNumbers / 2
  numbers_places some = own_places some (length workNumbers / 2) a.lengths.work_numbers_room

  -- ---- what each step asks
  pub read_fits : TextsFit i.lengths i.texts i.numbers
  read_fits = record { two = a.lengths.numbers_two; whole = a.lengths.texts_whole }

  pub read_room : 0 < operators i → ReadRoom own workWords workNumbers
  read_room some = record { lanes_long = omega (arith, words_places some); numbers_long = omega (arith, numbers_places some) }

  pub square : (largest : Float) → largest ≡ largest_over floats (matrix i) → Square (operators i) i.k largest
  square largest e = record { entries_all = a.lengths.entries_all; few = a.few; largest_is = e }

  pub work_room : 0 < operators i → (lanes : List ℕ) (numbers : List Float) → length lanes ≡ length workWords → length numbers ≡ length workNumbers → OperatorsRoom i.counts lanes numbers
  work_room some lanes numbers el en = record {
    few = few;
    lanes_long = omega (arith, el, words_places some, a.lengths.terms_counted);
    numbers_long = omega (arith, en, numbers_places some, a.lengths.terms_counted);
  }

  pairs_number : (As : List (List Term)) → length (pairs_of m.terms i.counts (matrix i) As) ≡ length (pair_places floats (operators i) (matrix i))
  pairs_number As = length-map (pair_places floats (operators i) (matrix i)) _

  -- ---- without operators the model and its tables stay
  pub compiled_none : operators i ≡ 0 → (words' : List ℕ) (numbers' : List Float) → words' ≡ replicate (length workWords) 0 → numbers' ≡ replicate (length workNumbers) float0
      → record { answer = Ok m; tables = t; work_words = words'; work_numbers = numbers' } ≡ add m i t workWords workNumbers
  compiled_none none words' numbers' cw cn =
      let inside = terms_inside m t a.modelled in
      added_none m i t workWords workNumbers a.As a.add_is none (operator_taken m.qubits i.lengths i.texts i.numbers) (operators_are m.qubits i a.As a.read) (omega (arith, inside.0, inside.1)) words' numbers' cw cn

  -- ---- the operators are read, then their pairs counted: the operators stay
  module _ (lanes : List ℕ) (numbers : List Float) (reads : operator_in own lanes numbers ≡ operator_taken m.qubits i.lengths i.texts i.numbers)
      (kept : ℕ) (counts : (from : ℕ) → kept ≡ length (terms_of (pairs_of from i.counts (matrix i) (operators_in i.counts lanes numbers))))
      (lanes' : List ℕ) (numbers' : List Float) (stays : WorkStays lanes numbers lanes' numbers')
      (places : ℕ) (p : places ≡ min (length t.t_words / word_lanes) (length t.t_numbers / 2)) where
    there : operators_in i.counts lanes numbers ≡ a.As
    there = operators_in_lem m.qubits i a.As a.read a.lengths.terms_counted a.lengths.numbers_two lanes numbers reads

    still : operators_in i.counts lanes' numbers' ≡ a.As
    still = operators_stay i.counts lanes lanes' numbers numbers' stays ∙ there

    kept_is : kept ≡ length (terms_of (pairs_of m.terms i.counts (matrix i) a.As))
    kept_is = counts m.terms ∙ ap (λ (As : List (List Term)). length (terms_of (pairs_of m.terms i.counts (matrix i) As))) there

    own_terms : terms_in lanes' numbers' 256 (256 + own) ≡ all_terms a.As
    own_terms =
        terms_stay 256 (256 + own) lanes lanes' numbers numbers' (omega arith) stays.lanes_stay stays.numbers_stay
        ∙ reads ∙ sym (all_are m.qubits i a.As a.read a.lengths.terms_counted a.lengths.numbers_two)

    own_number : length (all_terms a.As) ≡ own
    own_number = all_length m.qubits i a.As a.read a.lengths.terms_counted a.lengths.numbers_two

    pub store_room : 0 < operators i → m.terms + own + kept ≤ places → length lanes' ≡ length workWords → length numbers' ≡ length workNumbers
        → StoreRoom 256 (256 + own) lanes' numbers' m.terms t.t_words t.t_numbers
    store_room some h el en = record {
      order = omega arith;
      lanes_long = omega (arith, el, words_places some);
      numbers_long = omega (arith, en, numbers_places some);
      lanes_room = omega (arith, h, p);
      numbers_room = omega (arith, h, p);
    }

    pub pairs_room : m.terms + own + kept ≤ places → (tWords₁ : List ℕ) (tNumbers₁ : List Float) → length tWords₁ ≡ length t.t_words → length tNumbers₁ ≡ length t.t_numbers
        → JumpsRoom (pairs_of m.terms i.counts (matrix i) (operators_in i.counts lanes' numbers')) m.jumps (m.terms + own) t.jumps t.rates tWords₁ tNumbers₁
    pairs_room h tWords₁ tNumbers₁ el en =
        let n = pairs_number (operators_in i.counts lanes' numbers') in
        let f = pairs_few (operators i) (matrix i) in
        let k = kept_is ∙ sym (ap (λ (As : List (List Term)). length (terms_of (pairs_of m.terms i.counts (matrix i) As))) still) in
        record {
          entries_room = omega (arith, n, f, a.entries_few, a.lengths.jumps_room);
          rates_room = omega (arith, n, f, a.entries_few, a.lengths.rates_room);
          lanes_room = omega (arith, k, h, p, el);
          numbers_room = omega (arith, k, h, p, en);
        }

    -- ---- what is left
    module _ (words' : List ℕ) (numbers'' : List Float) (cw : words' ≡ replicate (length workWords) 0) (cn : numbers'' ≡ replicate (length workNumbers) float0) where
      pub compiled_full : places < m.terms + own + kept
          → record { answer = Err (TableFull 4 places); tables = t; work_words = words'; work_numbers = numbers'' } ≡ add m i t workWords workNumbers
      compiled_full h = added_full m i t workWords workNumbers a.As a.add_is own_number kept kept_is places p words' numbers'' cw cn h

      pub compiled_model : m.terms + own + kept ≤ places
          → (jumps' : List ℕ) (rates' : List Float) (tWords₁ : List ℕ) (tNumbers₁ : List Float) (tWords' : List ℕ) (tNumbers' : List Float)
          → LaysTerms (terms_in lanes' numbers' 256 (256 + own)) m.terms t.t_words t.t_numbers tWords₁ tNumbers₁
          → StoresJumps (pairs_of m.terms i.counts (matrix i) (operators_in i.counts lanes' numbers')) m.jumps (m.terms + own) t.jumps t.rates tWords₁ tNumbers₁ jumps' rates' tWords' tNumbers'
          → (count : ℕ) → count ≡ length (pair_places floats (operators i) (matrix i)) → record {
            answer = Ok (record { qubits = m.qubits; hamiltonian = m.hamiltonian; jumps = m.jumps + count; terms = m.terms + own + kept });
            tables = record { h_words = t.h_words; h_coeffs = t.h_coeffs; jumps = jumps'; rates = rates'; t_words = tWords'; t_numbers = tNumbers' };
            work_words = words';
            work_numbers = numbers'';
          } ≡ add m i t workWords workNumbers
      compiled_model h jumps' rates' tWords₁ tNumbers₁ tWords' tNumbers' lays stores count e =
          added_model m i t workWords workNumbers a.As a.add_is own_number kept kept_is places p words' numbers'' cw cn h jumps' rates' tWords₁ tNumbers₁ tWords' tNumbers'
          (subst (λ (T : List Term). LaysTerms T m.terms t.t_words t.t_numbers tWords₁ tNumbers₁) own_terms lays)
          (subst (λ (As : List (List Term)). StoresJumps (pairs_of m.terms i.counts (matrix i) As) m.jumps (m.terms + own) t.jumps t.rates tWords₁ tNumbers₁ jumps' rates' tWords' tNumbers') still stores)
          count e
