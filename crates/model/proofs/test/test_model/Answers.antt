-- SPDX-FileCopyrightText: 2026 The PPVM Authors
-- SPDX-License-Identifier: Apache-2.0

-- `test::test_model` meets its contract: each test refuses, or leaves those after it. Assumes nothing.
use mathlib.Core.Path.{◌≡◌, ◌∙◌}
use Rattle.std.specs.Prelude.{Ok}
use Rattle.refusal.specs.Cause.{Answer}
use Rattle.model.specs.Stored.{ModelTables}
use Rattle.model.specs.Tested.{bad_real, bad_entry, bad_term, test_model}
use Rattle.model.specs.declared.stored.Model.{Model}
use Rattle.model.proofs.ModelTests.{real_first, entry_first, term_first}
use Rattle.model.proofs.TestOrder.{terms_on, jumps_on, hamiltonian_on, term_numbers_on, term_words_on, rates_on, jump_numbers_on, coefficients_on, words_on, jump_count_on, count_on, qubits_above, qubits_within}
use Rattle.lent.specs.Tests.{first_to}
use Rattle.lent.proofs.OneTest.{counted_above, counted_within, lent_short, lent_enough, entries_refused, entries_passed}
use Rattle.model.specs.Between.{model_tables}
use Rattle.model.proofs.test.test_model.Goals as goal
use Rattle.model.proofs.test.test_model.Goals.{After-test_hamiltonian-real, After-test_jumps-entry, After-test_terms-term, Else-entry-m, Else-h_coeffs-m, Else-h_words-m, Else-jumps-m, Else-m-gt-MAX_HAMILTONIAN, Else-m-gt-MAX_JUMPS, Else-m-gt-MAX_QUBITS, Else-rates-m, Else-real-m, Else-t_numbers-m, Else-t_words-m, Else-term-m, Start}

-- the model and its tables
abbrev model : Start → Model
model c = c.args.m

abbrev slices : Start → ModelTables
slices c = model_tables c.args.h_words.now c.args.h_coeffs.now c.args.jumps.now c.args.rates.now c.args.t_words.now c.args.t_numbers.now

-- a passed test leaves the tests from here on
abbrev Leaves : (Model → ModelTables → Answer) → Start → Type 0
Leaves on c = on (model c) (slices c) ≡ test_model (model c) (slices c)

-- where each test began
abbrev start-1 : Else-m-gt-MAX_QUBITS → Start
start-1 c = (goal.at.Else-m-gt-MAX_QUBITS c).Start

abbrev start-2 : Else-m-gt-MAX_HAMILTONIAN → Start
start-2 c = start-1 (goal.at.Else-m-gt-MAX_HAMILTONIAN c).Else-m-gt-MAX_QUBITS

abbrev start-3 : Else-m-gt-MAX_JUMPS → Start
start-3 c = start-2 (goal.at.Else-m-gt-MAX_JUMPS c).Else-m-gt-MAX_HAMILTONIAN

abbrev start-4 : Else-h_words-m → Start
start-4 c = start-3 (goal.at.Else-h_words-m c).Else-m-gt-MAX_JUMPS

abbrev start-5 : Else-h_coeffs-m → Start
start-5 c = start-4 (goal.at.Else-h_coeffs-m c).Else-h_words-m

abbrev start-6 : Else-jumps-m → Start
start-6 c = start-5 (goal.at.Else-jumps-m c).Else-h_coeffs-m

abbrev start-7 : Else-rates-m → Start
start-7 c = start-6 (goal.at.Else-rates-m c).Else-jumps-m

abbrev start-8 : Else-t_words-m → Start
start-8 c = start-7 (goal.at.Else-t_words-m c).Else-rates-m

abbrev start-9 : Else-t_numbers-m → Start
start-9 c = start-8 (goal.at.Else-t_numbers-m c).Else-t_words-m

abbrev start-10 : Else-real-m → Start
start-10 c = start-9 (goal.at.Else-real-m c).Else-t_numbers-m

abbrev start-11 : Else-entry-m → Start
start-11 c = start-10 (goal.at.Else-entry-m c).Else-real-m

abbrev start-12 : Else-term-m → Start
start-12 c = start-11 (goal.at.Else-term-m c).Else-entry-m

-- the first place of each table that fails
first_real : (c : After-test_hamiltonian-real) → c.test_hamiltonian-real.result ≡ first_to (model (start-9 (goal.at.After-test_hamiltonian-real c).Else-t_numbers-m)).hamiltonian (bad_real (model (start-9 (goal.at.After-test_hamiltonian-real c).Else-t_numbers-m)).qubits (slices (start-9 (goal.at.After-test_hamiltonian-real c).Else-t_numbers-m)))
first_real c =
    let s = start-9 (goal.at.After-test_hamiltonian-real c).Else-t_numbers-m in
    c.test_hamiltonian-real.ensures ∙ real_first (model s).qubits (slices s) (model s).hamiltonian

first_entry : (c : After-test_jumps-entry) → c.test_jumps-entry.result ≡ first_to (model (start-10 (goal.at.After-test_jumps-entry c).Else-real-m)).jumps (bad_entry (model (start-10 (goal.at.After-test_jumps-entry c).Else-real-m)).terms (slices (start-10 (goal.at.After-test_jumps-entry c).Else-real-m)))
first_entry c =
    let s = start-10 (goal.at.After-test_jumps-entry c).Else-real-m in
    c.test_jumps-entry.ensures ∙ entry_first (model s).terms (slices s) (model s).jumps

first_term : (c : After-test_terms-term) → c.test_terms-term.result ≡ first_to (model (start-11 (goal.at.After-test_terms-term c).Else-entry-m)).terms (bad_term (model (start-11 (goal.at.After-test_terms-term c).Else-entry-m)).qubits (model (start-11 (goal.at.After-test_terms-term c).Else-entry-m)).jumps (slices (start-11 (goal.at.After-test_terms-term c).Else-entry-m)))
first_term c =
    let s = start-11 (goal.at.After-test_terms-term c).Else-entry-m in
    c.test_terms-term.ensures ∙ term_first (model s).qubits (slices s) (model s).jumps (model s).terms

-- what each passed test leaves
left_1 : (c : Else-m-gt-MAX_QUBITS) → Leaves count_on (start-1 c)
left_1 c = qubits_within (model (start-1 c)) (slices (start-1 c)) c.if-m-gt-MAX_QUBITS.false

left_2 : (c : Else-m-gt-MAX_HAMILTONIAN) → Leaves jump_count_on (start-2 c)
left_2 c = counted_within _ _ _ c.if-m-gt-MAX_HAMILTONIAN.false ∙ left_1 (goal.at.Else-m-gt-MAX_HAMILTONIAN c).Else-m-gt-MAX_QUBITS

left_3 : (c : Else-m-gt-MAX_JUMPS) → Leaves words_on (start-3 c)
left_3 c = counted_within _ _ _ c.if-m-gt-MAX_JUMPS.false ∙ left_2 (goal.at.Else-m-gt-MAX_JUMPS c).Else-m-gt-MAX_HAMILTONIAN

left_4 : (c : Else-h_words-m) → Leaves coefficients_on (start-4 c)
left_4 c = lent_enough _ _ _ c.if-h_words-m.false ∙ left_3 (goal.at.Else-h_words-m c).Else-m-gt-MAX_JUMPS

left_5 : (c : Else-h_coeffs-m) → Leaves jump_numbers_on (start-5 c)
left_5 c = lent_enough _ _ _ c.if-h_coeffs-m.false ∙ left_4 (goal.at.Else-h_coeffs-m c).Else-h_words-m

left_6 : (c : Else-jumps-m) → Leaves rates_on (start-6 c)
left_6 c = lent_enough _ _ _ c.if-jumps-m.false ∙ left_5 (goal.at.Else-jumps-m c).Else-h_coeffs-m

left_7 : (c : Else-rates-m) → Leaves term_words_on (start-7 c)
left_7 c = lent_enough _ _ _ c.if-rates-m.false ∙ left_6 (goal.at.Else-rates-m c).Else-jumps-m

left_8 : (c : Else-t_words-m) → Leaves term_numbers_on (start-8 c)
left_8 c = lent_enough _ _ _ c.if-t_words-m.false ∙ left_7 (goal.at.Else-t_words-m c).Else-rates-m

left_9 : (c : Else-t_numbers-m) → Leaves hamiltonian_on (start-9 c)
left_9 c = lent_enough _ _ _ c.if-t_numbers-m.false ∙ left_8 (goal.at.Else-t_numbers-m c).Else-t_words-m

left_10 : (c : Else-real-m) → Leaves jumps_on (start-10 c)
left_10 c = entries_passed _ _ _ (first_real (goal.at.Else-real-m c).After-test_hamiltonian-real) c.if-real-m.false ∙ left_9 (goal.at.Else-real-m c).Else-t_numbers-m

left_11 : (c : Else-entry-m) → Leaves terms_on (start-11 c)
left_11 c = entries_passed _ _ _ (first_entry (goal.at.Else-entry-m c).After-test_jumps-entry) c.if-entry-m.false ∙ left_10 (goal.at.Else-entry-m c).Else-real-m

left_12 : (c : Else-term-m) → Leaves (λ m t. (Ok tt)) (start-12 c)
left_12 c = entries_passed _ _ _ (first_term (goal.at.Else-term-m c).After-test_terms-term) c.if-term-m.false ∙ left_11 (goal.at.Else-term-m c).Else-entry-m

pub returns-then-m-gt-MAX_QUBITS : goal.returns-then-m-gt-MAX_QUBITS
returns-then-m-gt-MAX_QUBITS c = let s = (goal.at.returns-then-m-gt-MAX_QUBITS c).Start in qubits_above (model s) (slices s) c.if-m-gt-MAX_QUBITS.true

pub returns-then-m-gt-MAX_HAMILTONIAN : goal.returns-then-m-gt-MAX_HAMILTONIAN
returns-then-m-gt-MAX_HAMILTONIAN c = counted_above _ _ _ c.if-m-gt-MAX_HAMILTONIAN.true ∙ left_1 (goal.at.returns-then-m-gt-MAX_HAMILTONIAN c).Else-m-gt-MAX_QUBITS

pub returns-then-m-gt-MAX_JUMPS : goal.returns-then-m-gt-MAX_JUMPS
returns-then-m-gt-MAX_JUMPS c = counted_above _ _ _ c.if-m-gt-MAX_JUMPS.true ∙ left_2 (goal.at.returns-then-m-gt-MAX_JUMPS c).Else-m-gt-MAX_HAMILTONIAN

pub returns-then-h_words-m : goal.returns-then-h_words-m
returns-then-h_words-m c = lent_short _ _ _ c.if-h_words-m.true ∙ left_3 (goal.at.returns-then-h_words-m c).Else-m-gt-MAX_JUMPS

pub returns-then-h_coeffs-m : goal.returns-then-h_coeffs-m
returns-then-h_coeffs-m c = lent_short _ _ _ c.if-h_coeffs-m.true ∙ left_4 (goal.at.returns-then-h_coeffs-m c).Else-h_words-m

pub returns-then-jumps-m : goal.returns-then-jumps-m
returns-then-jumps-m c = lent_short _ _ _ c.if-jumps-m.true ∙ left_5 (goal.at.returns-then-jumps-m c).Else-h_coeffs-m

pub returns-then-rates-m : goal.returns-then-rates-m
returns-then-rates-m c = lent_short _ _ _ c.if-rates-m.true ∙ left_6 (goal.at.returns-then-rates-m c).Else-jumps-m

pub returns-then-t_words-m : goal.returns-then-t_words-m
returns-then-t_words-m c = lent_short _ _ _ c.if-t_words-m.true ∙ left_7 (goal.at.returns-then-t_words-m c).Else-rates-m

pub returns-then-t_numbers-m : goal.returns-then-t_numbers-m
returns-then-t_numbers-m c = lent_short _ _ _ c.if-t_numbers-m.true ∙ left_8 (goal.at.returns-then-t_numbers-m c).Else-t_words-m

pub returns-then-real-m : goal.returns-then-real-m
returns-then-real-m c = entries_refused _ _ _ (first_real (goal.at.returns-then-real-m c).After-test_hamiltonian-real) c.if-real-m.true ∙ left_9 (goal.at.returns-then-real-m c).Else-t_numbers-m

pub returns-then-entry-m : goal.returns-then-entry-m
returns-then-entry-m c = entries_refused _ _ _ (first_entry (goal.at.returns-then-entry-m c).After-test_jumps-entry) c.if-entry-m.true ∙ left_10 (goal.at.returns-then-entry-m c).Else-real-m

pub returns-then-term-m : goal.returns-then-term-m
returns-then-term-m c = entries_refused _ _ _ (first_term (goal.at.returns-then-term-m c).After-test_terms-term) c.if-term-m.true ∙ left_11 (goal.at.returns-then-term-m c).Else-entry-m

pub returns : goal.returns
returns c = left_12 (goal.at.returns c).Else-term-m
