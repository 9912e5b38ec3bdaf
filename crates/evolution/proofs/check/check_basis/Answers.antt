-- SPDX-FileCopyrightText: 2026 The PPVM Authors
-- SPDX-License-Identifier: Apache-2.0

-- `check::check_basis` meets its contract, answer by answer. Assumes nothing.
use mathlib.Core.Path.{sym, ◌∙◌}
use Rattle.refusal.proofs.Told.{handed_on}
use Rattle.model.specs.Stored.{ModelTables}
use Rattle.model.specs.Between.{model_tables}
use Rattle.evolution.proofs.CheckLaws.{model_refused, words_many, words_short, coeffs_short, basis_accepted}
use Rattle.evolution.proofs.check.check_basis.Goals as goal

pub returns-in_err-test_model : goal.returns-in_err-test_model
returns-in_err-test_model c =
    let a = c.args in
    let t : ModelTables = model_tables a.h_words.now a.h_coeffs.now a.jumps.now a.rates.now a.t_words.now a.t_numbers.now in
    handed_on _ _ c.from_residual.ensures.1 ∙ model_refused a.m t a.words.now a.coeffs.now a.len _ (sym c.test_model.ensures ∙ c.in_err-test_model.was)

pub returns-then-len-gt-MAX_WORDS : goal.returns-then-len-gt-MAX_WORDS
returns-then-len-gt-MAX_WORDS c =
    let a = c.args in
    let t : ModelTables = model_tables a.h_words.now a.h_coeffs.now a.jumps.now a.rates.now a.t_words.now a.t_numbers.now in
    words_many a.m t a.words.now a.coeffs.now a.len (sym c.test_model.ensures ∙ c.in_ok-test_model.was) c.if-len-gt-MAX_WORDS.true

pub returns-then-places-len : goal.returns-then-places-len
returns-then-places-len c =
    let a = c.args in
    let t : ModelTables = model_tables a.h_words.now a.h_coeffs.now a.jumps.now a.rates.now a.t_words.now a.t_numbers.now in
    c.mismatch.ensures ∙ words_short a.m t a.words.now a.coeffs.now a.len (sym c.test_model.ensures ∙ c.in_ok-test_model.was) c.if-len-gt-MAX_WORDS.false c.if-places-len.true

pub returns-then-coeffs-len : goal.returns-then-coeffs-len
returns-then-coeffs-len c =
    let a = c.args in
    let t : ModelTables = model_tables a.h_words.now a.h_coeffs.now a.jumps.now a.rates.now a.t_words.now a.t_numbers.now in
    c.mismatch-then-coeffs-len.ensures ∙ coeffs_short a.m t a.words.now a.coeffs.now a.len (sym c.test_model.ensures ∙ c.in_ok-test_model.was) c.if-len-gt-MAX_WORDS.false c.if-places-len.false c.if-coeffs-len.true

pub returns : goal.returns
returns c =
    let a = c.args in
    let t : ModelTables = model_tables a.h_words.now a.h_coeffs.now a.jumps.now a.rates.now a.t_words.now a.t_numbers.now in
    basis_accepted a.m t a.words.now a.coeffs.now a.len (sym c.test_model.ensures ∙ c.in_ok-test_model.was) c.if-len-gt-MAX_WORDS.false c.if-places-len.false c.if-coeffs-len.false
