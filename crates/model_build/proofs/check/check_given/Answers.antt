-- SPDX-FileCopyrightText: 2026 The PPVM Authors
-- SPDX-License-Identifier: Apache-2.0

-- `check::check_given` meets its contract: the tests before a return were passed, and the jumps are read from the texts
-- that the Hamiltonian leaves. Assumes nothing.
use mathlib.Core.Path.{sym, ◌∙◌}
use lib.ListN.{length}
use mir.Val.{Fits}
use mir.Syntax.{w64}
use mathlib.Core.List.{List, []}
use Prim.Native.Nat.{ℕ}
use lib.Ieee.{Float}
use borrow.Author.Rules.{rules}
use native.Mathlib.Omega.{arith}
use Rattle.refusal.proofs.Told.{handed_on}
use Rattle.model.specs.Stored.{ModelTables}
use Rattle.model_build.specs.Built.{Input}
use Rattle.model_build.proofs.BuildLaws.{LengthsFit, lengths_fit}
use Rattle.model_build.proofs.CheckLaws.{own_each, own_hold, rest_fit, reals_answer, jumps_answer, qubits_above, reals_above, jumps_above, lengths_refused, reals_refused, jumps_last}
use Rattle.model_build.proofs.check.check_given.Goals as goal
use Rattle.model_build.proofs.check.check_given.Goals.{In_ok-lengths_agree, Start}

abbrev input : Start → Input
input s =
    let a = s.args in
    record { texts = a.texts.now; lengths = a.lengths.now; h_numbers = a.h_numbers.now; rates = a.rates.now; counts = a.counts.now; numbers = a.numbers.now }

abbrev tables : Start → List ℕ → List Float → ModelTables
tables s tWords tNumbers =
    let a = s.args in
    record { h_words = a.h_words.now; h_coeffs = a.h_coeffs.now; jumps = a.jumps.now; rates = a.rate_places.now; t_words = tWords; t_numbers = tNumbers }

-- ---- past the test of the lengths
abbrev start : In_ok-lengths_agree → Start
start c = (goal.at.In_ok-lengths_agree c).Start

fit : (c : In_ok-lengths_agree) → LengthsFit (input (start c)) (tables (start c) [] []) (start c).args.work_words.now (start c).args.work_numbers.now
fit c = lengths_fit _ _ _ _ (sym (c.lengths_agree.ensures [] []) ∙ c.in_ok-lengths_agree.was)

pub returns-then-n_qubits-gt-MAX_QUBITS : goal.returns-then-n_qubits-gt-MAX_QUBITS
returns-then-n_qubits-gt-MAX_QUBITS c tWords tNumbers = let s = (goal.at.returns-then-n_qubits-gt-MAX_QUBITS c).Start in qubits_above c.args.n_qubits (input s) (tables s tWords tNumbers) c.args.work_words.now c.args.work_numbers.now c.if-n_qubits-gt-MAX_QUBITS.true

pub returns-then-h-gt-MAX_HAMILTONIAN : goal.returns-then-h-gt-MAX_HAMILTONIAN
returns-then-h-gt-MAX_HAMILTONIAN c tWords tNumbers = let s = (goal.at.returns-then-h-gt-MAX_HAMILTONIAN c).Start in reals_above c.args.n_qubits (input s) (tables s tWords tNumbers) c.args.work_words.now c.args.work_numbers.now c.if-n_qubits-gt-MAX_QUBITS.false c.if-h-gt-MAX_HAMILTONIAN.true

pub returns-then-rates-gt-MAX_JUMPS : goal.returns-then-rates-gt-MAX_JUMPS
returns-then-rates-gt-MAX_JUMPS c tWords tNumbers = let s = (goal.at.returns-then-rates-gt-MAX_JUMPS c).Start in jumps_above c.args.n_qubits (input s) (tables s tWords tNumbers) c.args.work_words.now c.args.work_numbers.now c.if-n_qubits-gt-MAX_QUBITS.false c.if-h-gt-MAX_HAMILTONIAN.false c.if-rates-gt-MAX_JUMPS.true

pub returns-in_err-lengths_agree : goal.returns-in_err-lengths_agree
returns-in_err-lengths_agree c tWords tNumbers =
    let s = (goal.at.returns-in_err-lengths_agree c).Start in
    handed_on _ _ c.from_residual.ensures.1 ∙ lengths_refused c.args.n_qubits (input s) (tables s tWords tNumbers) c.args.work_words.now c.args.work_numbers.now c.if-n_qubits-gt-MAX_QUBITS.false c.if-h-gt-MAX_HAMILTONIAN.false c.if-rates-gt-MAX_JUMPS.false c.lengths_agree.result (c.lengths_agree.ensures tWords tNumbers) _ c.in_err-lengths_agree.was

pub slice_bounds-own-end : goal.slice_bounds-own-end
slice_bounds-own-end c = omega (arith, (fit (goal.at.slice_bounds-own-end c).In_ok-lengths_agree).texts_each)

pub check_hamiltonian-requires : goal.check_hamiltonian-requires
check_hamiltonian-requires c =
    let s = start (goal.at.check_hamiltonian-requires c).In_ok-lengths_agree in
    (own_each (input s) (tables s [] []) s.args.work_words.now s.args.work_numbers.now (fit (goal.at.check_hamiltonian-requires c).In_ok-lengths_agree), own_hold (input s) (tables s [] []) s.args.work_words.now s.args.work_numbers.now (fit (goal.at.check_hamiltonian-requires c).In_ok-lengths_agree))

pub returns-in_err-check_hamiltonian : goal.returns-in_err-check_hamiltonian
returns-in_err-check_hamiltonian c tWords tNumbers =
    let s = (goal.at.returns-in_err-check_hamiltonian c).Start in
    handed_on _ _ c.from_residual-in_err-check_hamiltonian.ensures.1 ∙ reals_refused c.args.n_qubits (input s) (tables s tWords tNumbers) c.args.work_words.now c.args.work_numbers.now c.if-n_qubits-gt-MAX_QUBITS.false c.if-h-gt-MAX_HAMILTONIAN.false c.if-rates-gt-MAX_JUMPS.false c.lengths_agree.result (c.lengths_agree.ensures tWords tNumbers) c.in_ok-lengths_agree.was
    c.check_hamiltonian.result (reals_answer (input s) c.args.n_qubits c.check_hamiltonian.result c.check_hamiltonian.ensures) _ c.in_err-check_hamiltonian.was

pub sum_of-requires : goal.sum_of-requires
sum_of-requires c =
    let s = start (goal.at.sum_of-requires c).In_ok-lengths_agree in
    let f : Fits w64 (length s.args.texts.now) = search (s.well_formed, rules) in
    omega (arith, f, own_hold (input s) (tables s [] []) s.args.work_words.now s.args.work_numbers.now (fit (goal.at.sum_of-requires c).In_ok-lengths_agree))

pub slice_bounds-check_jumps-count : goal.slice_bounds-check_jumps-count
slice_bounds-check_jumps-count c = let s = start (goal.at.slice_bounds-check_jumps-count c).In_ok-lengths_agree in omega (arith, c.sum_of.ensures, own_hold (input s) (tables s [] []) s.args.work_words.now s.args.work_numbers.now (fit (goal.at.slice_bounds-check_jumps-count c).In_ok-lengths_agree))

pub slice_bounds-check_jumps-start : goal.slice_bounds-check_jumps-start
slice_bounds-check_jumps-start c = let s = start (goal.at.slice_bounds-check_jumps-start c).In_ok-lengths_agree in omega (arith, c.sum_of.ensures, own_hold (input s) (tables s [] []) s.args.work_words.now s.args.work_numbers.now (fit (goal.at.slice_bounds-check_jumps-start c).In_ok-lengths_agree))

pub slice_bounds-check_jumps-count-2 : goal.slice_bounds-check_jumps-count-2
slice_bounds-check_jumps-count-2 c = omega (arith, (fit (goal.at.slice_bounds-check_jumps-count-2 c).In_ok-lengths_agree).texts_each)

pub slice_bounds-check_jumps-start-2 : goal.slice_bounds-check_jumps-start-2
slice_bounds-check_jumps-start-2 c = omega (arith, (fit (goal.at.slice_bounds-check_jumps-start-2 c).In_ok-lengths_agree).texts_each)

pub check_jumps-requires : goal.check_jumps-requires
check_jumps-requires c =
    let s = start (goal.at.check_jumps-requires c).In_ok-lengths_agree in
    rest_fit (input s) (tables s [] []) s.args.work_words.now s.args.work_numbers.now (fit (goal.at.check_jumps-requires c).In_ok-lengths_agree) c.sum_of.result c.sum_of.ensures

pub returns : goal.returns
returns c tWords tNumbers =
    let s = (goal.at.returns c).Start in
    jumps_last c.args.n_qubits (input s) (tables s tWords tNumbers) c.args.work_words.now c.args.work_numbers.now c.if-n_qubits-gt-MAX_QUBITS.false c.if-h-gt-MAX_HAMILTONIAN.false c.if-rates-gt-MAX_JUMPS.false c.lengths_agree.result (c.lengths_agree.ensures tWords tNumbers) c.in_ok-lengths_agree.was
    c.check_hamiltonian.result (reals_answer (input s) c.args.n_qubits c.check_hamiltonian.result c.check_hamiltonian.ensures) c.in_ok-check_hamiltonian.was
    c.check_jumps.result (jumps_answer (input s) c.args.n_qubits c.check_jumps.result c.sum_of.result c.sum_of.ensures c.check_jumps.ensures)
