-- SPDX-FileCopyrightText: 2026 The PPVM Authors
-- SPDX-License-Identifier: Apache-2.0

-- `check::check_matrix` meets its contract: the tests before a return were passed. Assumes nothing.
use mathlib.Core.Path.{◌≡◌, sym, ◌∙◌}
use Prim.Native.Nat.{◌*◌}
use native.Mathlib.Omega.{arith}
use lib.ListN.{length}
use Rattle.std.specs.Prelude.{Ok}
use Rattle.refusal.proofs.Told.{handed_on}
use Rattle.model.specs.Stored.{ModelTables}
use Rattle.model.specs.Tested.{test_model}
use Rattle.model.specs.Fails.{number_fails}
use Rattle.model_build.specs.Items.{answer_of}
use Rattle.k_matrix.specs.Added.{Input, lengths_answer, read_operators}
use Rattle.k_matrix.specs.Work.{Square}
use Rattle.k_matrix.proofs.MatrixLaws.{places_few, some_ops}
use Rattle.k_matrix.proofs.MatrixLengths.{LengthsFit, lengths_fit}
use Rattle.kossakowski.proofs.MatrixTests.{jumps_few, range_first, model_refused, operators_above, lengths_refused, number_outside, not_hermitian, operators_refused, pairs_above, all_passed}
use Rattle.lent.specs.Tests.{first_to}
use Rattle.kossakowski.proofs.check.check_matrix.Goals as goal
use Rattle.kossakowski.proofs.check.check_matrix.Goals.{After-largest_square-largest, After-lengths_agree, After-test_model, After-test_range-outside, Else-apart-places, Else-ops-gt-MAX_OPERATORS, Else-outside-places, In_ok-test_model, In_ok-lengths_agree, In_ok-check_operators, Start}

abbrev input : Start → Input
input s =
    let a = s.args in
    record { texts = a.texts.now; lengths = a.lengths.now; counts = a.counts.now; numbers = a.numbers.now; k = a.k.now }

abbrev tables : Start → ModelTables
tables s =
    let a = s.args in
    record { h_words = a.h_words.now; h_coeffs = a.h_coeffs.now; jumps = a.jumps.now; rates = a.rates.now; t_words = a.t_words.now; t_numbers = a.t_numbers.now }

-- ---- where each test began
abbrev start : After-test_model → Start
start c = (goal.at.After-test_model c).Start

abbrev start-model : In_ok-test_model → Start
start-model c = start (goal.at.In_ok-test_model c).After-test_model

abbrev start-count : Else-ops-gt-MAX_OPERATORS → Start
start-count c = start-model (goal.at.Else-ops-gt-MAX_OPERATORS c).In_ok-test_model

abbrev start-lengths : In_ok-lengths_agree → Start
start-lengths c = start-count (goal.at.In_ok-lengths_agree c).Else-ops-gt-MAX_OPERATORS

abbrev start-numbers : Else-outside-places → Start
start-numbers c = start-lengths (goal.at.Else-outside-places c).In_ok-lengths_agree

abbrev start-mirrors : Else-apart-places → Start
start-mirrors c = start-numbers (goal.at.Else-apart-places c).Else-outside-places

abbrev start-operators : In_ok-check_operators → Start
start-operators c = start-mirrors (goal.at.In_ok-check_operators c).Else-apart-places

-- ---- what each passed test settles
modelled : (c : In_ok-test_model) → test_model (start-model c).args.m (tables (start-model c)) ≡ Ok tt
modelled c = sym c.test_model.ensures ∙ c.in_ok-test_model.was

agree : (c : After-lengths_agree)
    → let s = start-count (goal.at.After-lengths_agree c).Else-ops-gt-MAX_OPERATORS in c.lengths_agree.result ≡ lengths_answer s.args.m (input s) (tables s) s.args.work_words.now s.args.work_numbers.now
agree c =
    let t = tables (start-count (goal.at.After-lengths_agree c).Else-ops-gt-MAX_OPERATORS) in
    c.lengths_agree.ensures t.h_words t.h_coeffs t.t_words t.t_numbers

agreed : (c : In_ok-lengths_agree) → let s = start-lengths c in lengths_answer s.args.m (input s) (tables s) s.args.work_words.now s.args.work_numbers.now ≡ Ok tt
agreed c = sym (agree (goal.at.In_ok-lengths_agree c).After-lengths_agree) ∙ c.in_ok-lengths_agree.was

fit : (c : In_ok-lengths_agree) → let s = start-lengths c in LengthsFit s.args.m (input s) (tables s) s.args.work_words.now s.args.work_numbers.now
fit c = let s = start-lengths c in lengths_fit s.args.m (input s) (tables s) s.args.work_words.now s.args.work_numbers.now (agreed c)

outside_is : (c : After-test_range-outside)
    → let k = (start-lengths (goal.at.After-test_range-outside c).In_ok-lengths_agree).args.k.now in let n = length (start-lengths (goal.at.After-test_range-outside c).In_ok-lengths_agree).args.counts.now in c.test_range-outside.result ≡ first_to (n * n) (number_fails k)
outside_is c = let a = (start-lengths (goal.at.After-test_range-outside c).In_ok-lengths_agree).args in c.test_range-outside.ensures ∙ range_first (length a.counts.now * length a.counts.now) a.k.now

square : (c : After-largest_square-largest) → let a = (start-numbers (goal.at.After-largest_square-largest c).Else-outside-places).args in Square (length a.counts.now) a.k.now c.largest_square-largest.result
square c = record {
  entries_all = (fit (goal.at.After-largest_square-largest c).In_ok-lengths_agree).entries_all;
  few = c.if-ops-gt-MAX_OPERATORS.false;
  largest_is = c.largest_square-largest.ensures;
}

taken : (c : In_ok-check_operators) → let s = start-operators c in answer_of (read_operators s.args.m.qubits (input s)) ≡ Ok tt
taken c = sym c.check_operators.ensures ∙ c.in_ok-check_operators.was

pub returns-in_err-test_model : goal.returns-in_err-test_model
returns-in_err-test_model c =
    let s = start (goal.at.returns-in_err-test_model c).After-test_model in
    handed_on _ _ c.from_residual.ensures.1 ∙ model_refused s.args.m (input s) (tables s) s.args.work_words.now s.args.work_numbers.now _ (sym c.test_model.ensures ∙ c.in_err-test_model.was)

pub returns-then-ops-gt-MAX_OPERATORS : goal.returns-then-ops-gt-MAX_OPERATORS
returns-then-ops-gt-MAX_OPERATORS c =
    let s = start-model (goal.at.returns-then-ops-gt-MAX_OPERATORS c).In_ok-test_model in
    operators_above s.args.m (input s) (tables s) s.args.work_words.now s.args.work_numbers.now (modelled (goal.at.returns-then-ops-gt-MAX_OPERATORS c).In_ok-test_model) c.if-ops-gt-MAX_OPERATORS.true

pub lengths_agree-requires : goal.lengths_agree-requires
lengths_agree-requires c = let s = start-count (goal.at.lengths_agree-requires c).Else-ops-gt-MAX_OPERATORS in (jumps_few s.args.m (tables s) (modelled (goal.at.lengths_agree-requires c).In_ok-test_model), c.if-ops-gt-MAX_OPERATORS.false)

pub returns-in_err-lengths_agree : goal.returns-in_err-lengths_agree
returns-in_err-lengths_agree c =
    let b = (goal.at.returns-in_err-lengths_agree c).Else-ops-gt-MAX_OPERATORS in
    let s = start-count b in
    handed_on _ _ c.from_residual-in_err-lengths_agree.ensures.1 ∙ lengths_refused s.args.m (input s) (tables s) s.args.work_words.now s.args.work_numbers.now (modelled (goal.at.returns-in_err-lengths_agree c).In_ok-test_model) c.if-ops-gt-MAX_OPERATORS.false _ (sym (agree (goal.at.returns-in_err-lengths_agree c).After-lengths_agree) ∙ c.in_err-lengths_agree.was)

pub overflow_mul-places : goal.overflow_mul-places
overflow_mul-places c = omega (arith, places_few (length (start-lengths (goal.at.overflow_mul-places c).In_ok-lengths_agree).args.counts.now) c.if-ops-gt-MAX_OPERATORS.false)

pub test_range-outside-requires : goal.test_range-outside-requires
test_range-outside-requires c = omega (arith, (fit (goal.at.test_range-outside-requires c).In_ok-lengths_agree).entries_all)

pub returns-then-outside-places : goal.returns-then-outside-places
returns-then-outside-places c =
    let l = (goal.at.returns-then-outside-places c).In_ok-lengths_agree in
    let s = start-lengths l in
    number_outside s.args.m (input s) (tables s) s.args.work_words.now s.args.work_numbers.now (modelled (goal.at.returns-then-outside-places c).In_ok-test_model) c.if-ops-gt-MAX_OPERATORS.false (agreed l) c.test_range-outside.result (outside_is (goal.at.returns-then-outside-places c).After-test_range-outside) c.if-outside-places.true

pub first_apart-apart-requires : goal.first_apart-apart-requires
first_apart-apart-requires c = square (goal.at.first_apart-apart-requires c).After-largest_square-largest

pub nonzero_div-result : goal.nonzero_div-result
nonzero_div-result c = omega (arith, some_ops (length (start-numbers (goal.at.nonzero_div-result c).Else-outside-places).args.counts.now) c.first_apart-apart.result c.if-apart-places.true)

pub nonzero_rem-result : goal.nonzero_rem-result
nonzero_rem-result c = omega (arith, some_ops (length (start-numbers (goal.at.nonzero_rem-result c).Else-outside-places).args.counts.now) c.first_apart-apart.result c.if-apart-places.true)

pub returns-then-apart-places : goal.returns-then-apart-places
returns-then-apart-places c =
    let l = (goal.at.returns-then-apart-places c).In_ok-lengths_agree in
    let s = start-lengths l in
    not_hermitian s.args.m (input s) (tables s) s.args.work_words.now s.args.work_numbers.now (modelled (goal.at.returns-then-apart-places c).In_ok-test_model) c.if-ops-gt-MAX_OPERATORS.false (agreed l) c.test_range-outside.result (outside_is (goal.at.returns-then-apart-places c).After-test_range-outside) c.if-outside-places.false c.first_apart-apart.result
    c.first_apart-apart.ensures c.if-apart-places.true

pub check_operators-requires : goal.check_operators-requires
check_operators-requires c = let f = fit (goal.at.check_operators-requires c).In_ok-lengths_agree in (f.terms_counted, f.numbers_two, f.texts_whole)

pub returns-in_err-check_operators : goal.returns-in_err-check_operators
returns-in_err-check_operators c =
    let l = (goal.at.returns-in_err-check_operators c).In_ok-lengths_agree in
    let s = start-lengths l in
    handed_on _ _ c.from_residual-in_err-check_operators.ensures.1 ∙ operators_refused s.args.m (input s) (tables s) s.args.work_words.now s.args.work_numbers.now (modelled (goal.at.returns-in_err-check_operators c).In_ok-test_model) c.if-ops-gt-MAX_OPERATORS.false (agreed l) c.test_range-outside.result (outside_is (goal.at.returns-in_err-check_operators c).After-test_range-outside) c.if-outside-places.false c.first_apart-apart.result
    c.first_apart-apart.ensures c.if-apart-places.false _ (sym c.check_operators.ensures ∙ c.in_err-check_operators.was)

pub count_pairs-requires : goal.count_pairs-requires
count_pairs-requires c = square (goal.at.count_pairs-requires c).After-largest_square-largest

pub overflow_add-count : goal.overflow_add-count
overflow_add-count c =
    let b = (goal.at.overflow_add-count c).Else-ops-gt-MAX_OPERATORS in
    omega (arith, c.count_pairs.ensures.1, jumps_few (start-count b).args.m (tables (start-count b)) (modelled (goal.at.overflow_add-count c).In_ok-test_model))

pub returns-then-count-gt-MAX_JUMPS : goal.returns-then-count-gt-MAX_JUMPS
returns-then-count-gt-MAX_JUMPS c =
    let o = (goal.at.returns-then-count-gt-MAX_JUMPS c).In_ok-check_operators in
    let l = (goal.at.returns-then-count-gt-MAX_JUMPS c).In_ok-lengths_agree in
    let s = start-lengths l in
    pairs_above s.args.m (input s) (tables s) s.args.work_words.now s.args.work_numbers.now (modelled (goal.at.returns-then-count-gt-MAX_JUMPS c).In_ok-test_model) c.if-ops-gt-MAX_OPERATORS.false (agreed l) c.test_range-outside.result (outside_is (goal.at.returns-then-count-gt-MAX_JUMPS c).After-test_range-outside) c.if-outside-places.false c.first_apart-apart.result
    c.first_apart-apart.ensures c.if-apart-places.false (taken o) c.count_pairs.result c.count_pairs.ensures.0 c.if-count-gt-MAX_JUMPS.true

pub returns : goal.returns
returns c =
    let o = (goal.at.returns c).In_ok-check_operators in
    let l = (goal.at.returns c).In_ok-lengths_agree in
    let s = start-lengths l in
    all_passed s.args.m (input s) (tables s) s.args.work_words.now s.args.work_numbers.now (modelled (goal.at.returns c).In_ok-test_model) c.if-ops-gt-MAX_OPERATORS.false (agreed l) c.test_range-outside.result (outside_is (goal.at.returns c).After-test_range-outside) c.if-outside-places.false c.first_apart-apart.result
    c.first_apart-apart.ensures c.if-apart-places.false (taken o) c.count_pairs.result c.count_pairs.ensures.0 c.if-count-gt-MAX_JUMPS.false
