-- SPDX-FileCopyrightText: 2026 The PPVM Authors
-- SPDX-License-Identifier: Apache-2.0

-- `check::check_given` meets its contract, answer by answer. Assumes nothing.
use mathlib.Core.Path.{sym, ◌∙◌}
use borrow.Author.Tests.{eq-eqb, ne_eqb}
use Rattle.refusal.proofs.Told.{handed_on}
use Rattle.model.specs.Stored.{ModelTables}
use Rattle.model.specs.Between.{model_tables}
use Rattle.step_parts.proofs.CheckLaws.{model_refused, words_many, protected_many, limits_refused, words_short, coeffs_short, lanes_over, given_accepted}
use Rattle.step_parts.proofs.check.check_given.Goals as goal

pub returns-in_err-test_model : goal.returns-in_err-test_model
returns-in_err-test_model c =
    let a = c.args in
    let t : ModelTables = model_tables a.h_words.now a.h_coeffs.now a.jumps.now a.rates.now a.t_words.now a.t_numbers.now in
    handed_on _ _ c.from_residual.ensures.1 ∙ model_refused a.m t a.words.now a.coeffs.now a.len a.protected.now a.limits _ (sym c.test_model.ensures ∙ c.in_err-test_model.was)

pub returns-then-len-gt-MAX_WORDS : goal.returns-then-len-gt-MAX_WORDS
returns-then-len-gt-MAX_WORDS c =
    let a = c.args in
    let t : ModelTables = model_tables a.h_words.now a.h_coeffs.now a.jumps.now a.rates.now a.t_words.now a.t_numbers.now in
    words_many a.m t a.words.now a.coeffs.now a.len a.protected.now a.limits (sym c.test_model.ensures ∙ c.in_ok-test_model.was) c.if-len-gt-MAX_WORDS.true

pub returns-then-count-gt-MAX_WORDS : goal.returns-then-count-gt-MAX_WORDS
returns-then-count-gt-MAX_WORDS c =
    let a = c.args in
    let t : ModelTables = model_tables a.h_words.now a.h_coeffs.now a.jumps.now a.rates.now a.t_words.now a.t_numbers.now in
    protected_many a.m t a.words.now a.coeffs.now a.len a.protected.now a.limits (sym c.test_model.ensures ∙ c.in_ok-test_model.was) c.if-len-gt-MAX_WORDS.false c.if-count-gt-MAX_WORDS.true

pub returns-in_err-check_limits : goal.returns-in_err-check_limits
returns-in_err-check_limits c =
    let a = c.args in
    let t : ModelTables = model_tables a.h_words.now a.h_coeffs.now a.jumps.now a.rates.now a.t_words.now a.t_numbers.now in
    handed_on _ _ c.from_residual-in_err-check_limits.ensures.1 ∙ limits_refused a.m t a.words.now a.coeffs.now a.len a.protected.now a.limits (sym c.test_model.ensures ∙ c.in_ok-test_model.was) c.if-len-gt-MAX_WORDS.false c.if-count-gt-MAX_WORDS.false _ (sym c.check_limits.ensures ∙ c.in_err-check_limits.was)

pub returns-then-places-len : goal.returns-then-places-len
returns-then-places-len c =
    let a = c.args in
    let t : ModelTables = model_tables a.h_words.now a.h_coeffs.now a.jumps.now a.rates.now a.t_words.now a.t_numbers.now in
    c.mismatch.ensures ∙ words_short a.m t a.words.now a.coeffs.now a.len a.protected.now a.limits (sym c.test_model.ensures ∙ c.in_ok-test_model.was) c.if-len-gt-MAX_WORDS.false c.if-count-gt-MAX_WORDS.false (sym c.check_limits.ensures ∙ c.in_ok-check_limits.was) c.if-places-len.true

pub returns-then-coeffs-len : goal.returns-then-coeffs-len
returns-then-coeffs-len c =
    let a = c.args in
    let t : ModelTables = model_tables a.h_words.now a.h_coeffs.now a.jumps.now a.rates.now a.t_words.now a.t_numbers.now in
    c.mismatch-then-coeffs-len.ensures ∙ coeffs_short a.m t a.words.now a.coeffs.now a.len a.protected.now a.limits (sym c.test_model.ensures ∙ c.in_ok-test_model.was) c.if-len-gt-MAX_WORDS.false c.if-count-gt-MAX_WORDS.false (sym c.check_limits.ensures ∙ c.in_ok-check_limits.was) c.if-places-len.false c.if-coeffs-len.true

pub returns-then-protected-lanes : goal.returns-then-protected-lanes
returns-then-protected-lanes c =
    let a = c.args in
    let t : ModelTables = model_tables a.h_words.now a.h_coeffs.now a.jumps.now a.rates.now a.t_words.now a.t_numbers.now in
    c.mismatch-then-protected-lanes.ensures ∙ lanes_over a.m t a.words.now a.coeffs.now a.len a.protected.now a.limits (sym c.test_model.ensures ∙ c.in_ok-test_model.was) c.if-len-gt-MAX_WORDS.false c.if-count-gt-MAX_WORDS.false (sym c.check_limits.ensures ∙ c.in_ok-check_limits.was) c.if-places-len.false c.if-coeffs-len.false (ne_eqb _ _ c.if-protected-lanes.true)

pub returns : goal.returns
returns c =
    let a = c.args in
    let t : ModelTables = model_tables a.h_words.now a.h_coeffs.now a.jumps.now a.rates.now a.t_words.now a.t_numbers.now in
    given_accepted a.m t a.words.now a.coeffs.now a.len a.protected.now a.limits (sym c.test_model.ensures ∙ c.in_ok-test_model.was) c.if-len-gt-MAX_WORDS.false c.if-count-gt-MAX_WORDS.false (sym c.check_limits.ensures ∙ c.in_ok-check_limits.was) c.if-places-len.false c.if-coeffs-len.false (eq-eqb _ _ c.if-protected-lanes.false)
