-- SPDX-FileCopyrightText: 2026 The PPVM Authors
-- SPDX-License-Identifier: Apache-2.0

-- `check::check_leakage` meets its contract, answer by answer. Assumes nothing.
use mathlib.Core.Path.{sym, ◌∙◌}
use native.Mathlib.Omega.{arith}
use borrow.Author.Tests.{eq-eqb, ne_eqb}
use Rattle.refusal.proofs.Told.{handed_on}
use Rattle.model.specs.Stored.{ModelTables}
use Rattle.model.proofs.StandsLaws.{tested_stands}
use Rattle.leakage.specs.Leakages.{Basis, basis_of}
use Rattle.leakage.proofs.CheckLaws.{model_refused, words_many, protected_many, limits_refused, words_short, coeffs_short, lanes_over, work_refused, entries_refused, threshold_left, entries_are}
use Rattle.model.specs.Between.{model_tables}
use Rattle.leakage.proofs.check.check_leakage.Goals as goal

pub returns-in_err-test_model : goal.returns-in_err-test_model
returns-in_err-test_model c =
    let a = c.args in
    let t : ModelTables = model_tables a.h_words.now a.h_coeffs.now a.jumps.now a.rates.now a.t_words.now a.t_numbers.now in
    let b : Basis = basis_of a.words.now a.coeffs.now a.len a.protected.now in
    λ w eh ej ek eo ehe ene.
    handed_on _ _ c.from_residual.ensures.1 ∙ model_refused a.m t b a.limits w _ (sym c.test_model.ensures ∙ c.in_err-test_model.was)

pub returns-then-len-gt-MAX_WORDS : goal.returns-then-len-gt-MAX_WORDS
returns-then-len-gt-MAX_WORDS c =
    let a = c.args in
    let t : ModelTables = model_tables a.h_words.now a.h_coeffs.now a.jumps.now a.rates.now a.t_words.now a.t_numbers.now in
    let b : Basis = basis_of a.words.now a.coeffs.now a.len a.protected.now in
    λ w eh ej ek eo ehe ene.
    words_many a.m t b a.limits w (sym c.test_model.ensures ∙ c.in_ok-test_model.was) c.if-len-gt-MAX_WORDS.true

pub returns-then-count-gt-MAX_WORDS : goal.returns-then-count-gt-MAX_WORDS
returns-then-count-gt-MAX_WORDS c =
    let a = c.args in
    let t : ModelTables = model_tables a.h_words.now a.h_coeffs.now a.jumps.now a.rates.now a.t_words.now a.t_numbers.now in
    let b : Basis = basis_of a.words.now a.coeffs.now a.len a.protected.now in
    λ w eh ej ek eo ehe ene.
    protected_many a.m t b a.limits w (sym c.test_model.ensures ∙ c.in_ok-test_model.was) c.if-len-gt-MAX_WORDS.false c.if-count-gt-MAX_WORDS.true

pub returns-in_err-check_limits : goal.returns-in_err-check_limits
returns-in_err-check_limits c =
    let a = c.args in
    let t : ModelTables = model_tables a.h_words.now a.h_coeffs.now a.jumps.now a.rates.now a.t_words.now a.t_numbers.now in
    let b : Basis = basis_of a.words.now a.coeffs.now a.len a.protected.now in
    λ w eh ej ek eo ehe ene.
    handed_on _ _ c.from_residual-in_err-check_limits.ensures.1 ∙ limits_refused a.m t b a.limits w (sym c.test_model.ensures ∙ c.in_ok-test_model.was) c.if-len-gt-MAX_WORDS.false c.if-count-gt-MAX_WORDS.false _ (sym c.check_limits.ensures ∙ c.in_err-check_limits.was)

pub returns-then-places-len : goal.returns-then-places-len
returns-then-places-len c =
    let a = c.args in
    let t : ModelTables = model_tables a.h_words.now a.h_coeffs.now a.jumps.now a.rates.now a.t_words.now a.t_numbers.now in
    let b : Basis = basis_of a.words.now a.coeffs.now a.len a.protected.now in
    λ w eh ej ek eo ehe ene.
    c.mismatch.ensures ∙ words_short a.m t b a.limits w (sym c.test_model.ensures ∙ c.in_ok-test_model.was) c.if-len-gt-MAX_WORDS.false c.if-count-gt-MAX_WORDS.false (sym c.check_limits.ensures ∙ c.in_ok-check_limits.was) c.if-places-len.true

pub returns-then-coeffs-len : goal.returns-then-coeffs-len
returns-then-coeffs-len c =
    let a = c.args in
    let t : ModelTables = model_tables a.h_words.now a.h_coeffs.now a.jumps.now a.rates.now a.t_words.now a.t_numbers.now in
    let b : Basis = basis_of a.words.now a.coeffs.now a.len a.protected.now in
    λ w eh ej ek eo ehe ene.
    c.mismatch-then-coeffs-len.ensures ∙ coeffs_short a.m t b a.limits w (sym c.test_model.ensures ∙ c.in_ok-test_model.was) c.if-len-gt-MAX_WORDS.false c.if-count-gt-MAX_WORDS.false (sym c.check_limits.ensures ∙ c.in_ok-check_limits.was) c.if-places-len.false c.if-coeffs-len.true

pub returns-then-protected-lanes : goal.returns-then-protected-lanes
returns-then-protected-lanes c =
    let a = c.args in
    let t : ModelTables = model_tables a.h_words.now a.h_coeffs.now a.jumps.now a.rates.now a.t_words.now a.t_numbers.now in
    let b : Basis = basis_of a.words.now a.coeffs.now a.len a.protected.now in
    λ w eh ej ek eo ehe ene.
    c.mismatch-then-protected-lanes.ensures ∙ lanes_over a.m t b a.limits w (sym c.test_model.ensures ∙ c.in_ok-test_model.was) c.if-len-gt-MAX_WORDS.false c.if-count-gt-MAX_WORDS.false (sym c.check_limits.ensures ∙ c.in_ok-check_limits.was) c.if-places-len.false c.if-coeffs-len.false (ne_eqb _ _ c.if-protected-lanes.true)

pub check_work-requires : goal.check_work-requires
check_work-requires c =
    let a = c.args in
    let t : ModelTables = model_tables a.h_words.now a.h_coeffs.now a.jumps.now a.rates.now a.t_words.now a.t_numbers.now in
    let s = tested_stands a.m t (sym c.test_model.ensures ∙ c.in_ok-test_model.was) in
    (omega (arith, s.qubits), c.if-len-gt-MAX_WORDS.false, c.if-count-gt-MAX_WORDS.false)

pub returns-in_err-check_work : goal.returns-in_err-check_work
returns-in_err-check_work c =
    let a = c.args in
    let t : ModelTables = model_tables a.h_words.now a.h_coeffs.now a.jumps.now a.rates.now a.t_words.now a.t_numbers.now in
    let b : Basis = basis_of a.words.now a.coeffs.now a.len a.protected.now in
    λ w eh ej ek eo ehe ene.
    handed_on _ _ c.from_residual-in_err-check_work.ensures.1 ∙ work_refused a.m t b a.limits w (sym c.test_model.ensures ∙ c.in_ok-test_model.was) c.if-len-gt-MAX_WORDS.false c.if-count-gt-MAX_WORDS.false (sym c.check_limits.ensures ∙ c.in_ok-check_limits.was) c.if-places-len.false c.if-coeffs-len.false (eq-eqb _ _ c.if-protected-lanes.false) _ (sym (c.check_work.ensures w eh ej ek eo ehe ene) ∙ c.in_err-check_work.was)

pub returns-in_err-check_entries : goal.returns-in_err-check_entries
returns-in_err-check_entries c =
    let a = c.args in
    let t : ModelTables = model_tables a.h_words.now a.h_coeffs.now a.jumps.now a.rates.now a.t_words.now a.t_numbers.now in
    let b : Basis = basis_of a.words.now a.coeffs.now a.len a.protected.now in
    λ w eh ej ek eo ehe ene.
    handed_on _ _ c.from_residual-in_err-check_entries.ensures.1 ∙ entries_refused a.m t b a.limits w (sym c.test_model.ensures ∙ c.in_ok-test_model.was) c.if-len-gt-MAX_WORDS.false c.if-count-gt-MAX_WORDS.false (sym c.check_limits.ensures ∙ c.in_ok-check_limits.was) c.if-places-len.false c.if-coeffs-len.false (eq-eqb _ _ c.if-protected-lanes.false) (sym (c.check_work.ensures w eh ej ek eo ehe ene) ∙ c.in_ok-check_work.was) _ (entries_are a.m.qubits b (sym c.check_entries.ensures ∙ c.in_err-check_entries.was))

pub returns : goal.returns
returns c =
    let a = c.args in
    let t : ModelTables = model_tables a.h_words.now a.h_coeffs.now a.jumps.now a.rates.now a.t_words.now a.t_numbers.now in
    let b : Basis = basis_of a.words.now a.coeffs.now a.len a.protected.now in
    λ w eh ej ek eo ehe ene.
    c.check_threshold.ensures ∙ threshold_left a.m t b a.limits w (sym c.test_model.ensures ∙ c.in_ok-test_model.was) c.if-len-gt-MAX_WORDS.false c.if-count-gt-MAX_WORDS.false (sym c.check_limits.ensures ∙ c.in_ok-check_limits.was) c.if-places-len.false c.if-coeffs-len.false (eq-eqb _ _ c.if-protected-lanes.false) (sym (c.check_work.ensures w eh ej ek eo ehe ene) ∙ c.in_ok-check_work.was) (entries_are a.m.qubits b (sym c.check_entries.ensures ∙ c.in_ok-check_entries.was))
