-- SPDX-FileCopyrightText: 2026 The PPVM Authors
-- SPDX-License-Identifier: Apache-2.0

-- A model that was built passes the test. Assumes nothing.
use mathlib.Core.Path.{◌≡◌, sym, ap, ◌∙◌, subst}
use mathlib.Core.List.{List, [], ◌∷◌, map}
use Prim.Native.Nat.{ℕ, ◌+◌, ◌≤◌}
use native.Mathlib.Omega.{arith}
use borrow.Author.Tests.{ltb-false}
use lib.Dec.{ltb}
use lib.Ieee.{Float}
use lib.ListN.{length, take, drop, length-map}
use Rattle.refusal.specs.declared.Refusal.TheVariants.{TooManyQubits}
use Rattle.std.specs.Prelude.{Ok}
use Rattle.word.specs.Word.{max_qubits}
use Rattle.number.specs.Floats.{floats}
use Rattle.gksl.specs.Model.{RealTerm, JumpOver}
use Rattle.gksl.specs.Words.{pauli}
use Rattle.sums.specs.Numbers.{complexes}
use Rattle.model.specs.Stored.{ModelTables}
use Rattle.model.specs.Tested.{max_hamiltonian, max_jumps, test_model}
use Rattle.model_build.specs.Given.{GivenTerm, read_real, read_jump}
use Rattle.model_build.specs.Compiled.{Compiled, compile_jump}
use Rattle.model_build.specs.Taken.{real_taken, jump_taken}
use Rattle.model_build.specs.Built.{Input, hamiltonian, jumps_given, real_items, term_items, jump_items, parts, read_hamiltonian, read_jumps, entries_from, terms_of, rates_of, stored, term_places, build}
use Rattle.model.specs.declared.stored.Model.{Model}
use Rattle.model_build.proofs.BuildLaws.{LengthsFit, lengths_fit}
use Rattle.model_build.proofs.TakenLaws.{reals_taken, jumps_taken}
use Rattle.lent.specs.Every.{Every}
use Rattle.lent.proofs.Lists.{every_weaken, every_map}
use Rattle.lent.specs.Read.{got}
use Rattle.model.specs.Stands.{Stands}
use Rattle.model.proofs.StandsLaws.{stands_tested}
use Rattle.model_laws.specs.Extended.{Additions, larger, extended, Extends}
use Rattle.model_laws.proofs.ExtendedLaws.{extended_stands}
use Rattle.model_laws.proofs.ReadItems.{JumpGood, real_read, jump_read, each_every}
use Rattle.model_laws.proofs.Answered.{by_test, by_read, by_room}
use Rattle.model_laws.proofs.CompiledLaws.{CompiledGood, compiled_good, entries_length, terms_good, entries_good}
use Rattle.lent.proofs.Passed.{passed, counted_passed}

-- a model without items
abbrev pub empty : ℕ → Model
empty n = record { qubits = n; hamiltonian = 0; jumps = 0; terms = 0 }

pub empty_stands : (n : ℕ) (t : ModelTables) → n ≤ max_qubits → Stands (empty n) t
empty_stands n t h = record {
  qubits = h;
  few_reals = omega arith;
  few_jumps = omega arith;
  h_words_room = omega arith;
  h_coeffs_room = omega arith;
  jumps_room = omega arith;
  rates_room = omega arith;
  t_words_room = omega arith;
  t_numbers_room = omega arith;
  reals = λ i l. absurd (omega arith);
  kinds = λ j l. absurd (omega arith);
  fits = λ j l. absurd (omega arith);
  terms = λ i l. absurd (omega arith);
  givens = λ i l. absurd (omega arith);
}

-- ---- no more items than numbers and rates
reals_few : (ts : List (List ℕ)) (xs : List Float) → length (real_items ts xs) ≤ length xs
unfolding real_items
reals_few [] xs = omega arith
reals_few (t ∷ ts) [] = omega arith
reals_few (t ∷ ts) (x ∷ xs) = omega (arith, reals_few ts xs)

pub jumps_few : (gs : List Float) (ts : List (List GivenTerm)) → length (jump_items gs ts) ≤ length gs
unfolding jump_items
jumps_few [] ts = omega arith
jumps_few (g ∷ gs) [] = omega arith
jumps_few (g ∷ gs) (t ∷ ts) = omega (arith, jumps_few gs ts)

module _ (n : ℕ) (i : Input) (t : ModelTables) (workWords : List ℕ) (workNumbers : List Float) where
  module _ (within : n ≤ max_qubits) (few-reals : length i.h_numbers ≤ max_hamiltonian) (few-jumps : length i.rates ≤ max_jumps) (fit : LengthsFit i t workWords workNumbers)
      (hs : List (RealTerm floats pauli)) (reals : read_hamiltonian n i ≡ got hs) (js : List (JumpOver floats pauli)) (jumps : read_jumps n i ≡ got js) where
    abbrev cs : List Compiled
    cs = map compile_jump js

    compiled : Every (CompiledGood n) cs
    compiled = every_map (CompiledGood n) compile_jump js (every_weaken (JumpGood n) _ (compiled_good n) js (each_every (JumpGood n) (read_jump n) (jump_read n) 0 (jumps_given i) js jumps))

    abbrev added : Additions
    added = record { reals = hs; entries = entries_from 0 cs; rates = rates_of cs; terms = terms_of cs }

    reals_number : length hs ≤ length i.h_numbers
    reals_number = omega (arith, ap length (reals_taken n 0 (hamiltonian i) hs reals), length-map (hamiltonian i) (real_taken n), reals_few (parts (take (length i.h_numbers) i.lengths) i.texts) i.h_numbers)

    jumps_number : length cs ≤ length i.rates
    jumps_number = omega (arith, length-map js compile_jump, ap length (jumps_taken n 0 (jumps_given i) js jumps), length-map (jumps_given i) (jump_taken n), jumps_few i.rates (parts i.counts (term_items (drop (length i.h_numbers) (parts i.lengths i.texts)) (complexes i.numbers))))

    rates_number : length (rates_of cs) ≡ length cs
    rates_number = length-map cs (λ (c : Compiled). c.rate)

    extends : length (terms_of cs) ≤ term_places t → Extends (empty n) t added
    extends room =
        let entries-number = entries_length 0 cs in
        record {
          rates_each = rates_number ∙ sym entries-number;
          reals = each_every _ (read_real n) (real_read n) 0 (hamiltonian i) hs reals;
          entries = λ j l. entries_good n 0 cs compiled j (omega (arith, l, entries-number));
          terms = terms_good n cs compiled;
          few_reals = omega (arith, reals_number, few-reals);
          few_jumps = omega (arith, jumps_number, few-jumps, entries-number);
          h_words_room = omega (arith, reals_number, fit.h_words_room);
          h_coeffs_room = omega (arith, reals_number, fit.h_coeffs_room);
          jumps_room = omega (arith, jumps_number, fit.jumps_room, entries-number);
          rates_room = omega (arith, jumps_number, fit.rates_room, entries-number);
          t_words_room = omega (arith, room);
          t_numbers_room = omega (arith, room);
        }

    abbrev made : Model
    made = record { qubits = n; hamiltonian = length hs; jumps = length cs; terms = length (terms_of cs) }

    made_is : larger (empty n) added ≡ made
    made_is =
        let h : 0 + length hs ≡ length hs = omega arith in
        let j : 0 + length (entries_from 0 cs) ≡ length cs = omega (arith, entries_length 0 cs) in
        let z : 0 + length (terms_of cs) ≡ length (terms_of cs) = omega arith in
        λ k. record { qubits = n; hamiltonian = h k; jumps = j k; terms = z k }

    made_passes : length (terms_of cs) ≤ term_places t → test_model made (stored hs cs t) ≡ Ok tt
    unfolding extended stored
    made_passes room =
        subst (λ (m : Model). test_model m (stored hs cs t) ≡ Ok tt) made_is
        (stands_tested (larger (empty n) added) (extended (empty n) t added) (extended_stands (empty n) t added (empty_stands n t within) (extends room)))

  -- a model that was built passes the test
  pub built_passes : (m : Model) → (build n i t workWords workNumbers).answer ≡ Ok m → test_model m (build n i t workWords workNumbers).tables ≡ Ok tt
  unfolding build
  built_passes =
      by_test t workWords workNumbers _ _ (λ first.
      let e1 = passed (ltb max_qubits n) (TooManyQubits n max_qubits) _ first in
      let e2 = counted_passed max_hamiltonian (length i.h_numbers) _ e1.1 in
      let e3 = counted_passed max_jumps (length i.rates) _ e2.1 in
      by_read t workWords workNumbers (read_hamiltonian n i) _ (λ hs reals. by_read t workWords workNumbers (read_jumps n i) _ (λ js jumps.
      by_room t workWords workNumbers (term_places t) (length (terms_of (map compile_jump js)))
      (record { qubits = n; hamiltonian = length hs; jumps = length (map compile_jump js); terms = length (terms_of (map compile_jump js)) }) (stored hs (map compile_jump js) t)
      (made_passes (ltb-false max_qubits n e1.0) e2.0 e3.0 (lengths_fit i t workWords workNumbers e3.1) hs reals js jumps))))
