-- SPDX-FileCopyrightText: 2026 The PPVM Authors
-- SPDX-License-Identifier: Apache-2.0

-- `words::check_words` meets its contract, answer by answer. Assumes nothing.
use mathlib.Core.Path.{sym, ◌∙◌}
use native.Mathlib.Omega.{arith}
use borrow.Author.Tests.{eq-eqb, ne_eqb}
use Rattle.refusal.proofs.Told.{handed_on}
use Rattle.model.specs.Stored.{ModelTables}
use Rattle.model.proofs.StandsLaws.{tested_stands}
use Rattle.action.proofs.WordsLaws.{model_refused, words_many, lanes_over, h_index_short, j_index_short, mask_short, word_outside, words_accepted}
use Rattle.model.specs.Between.{model_tables}
use Rattle.action.proofs.words.check_words.Goals as goal

pub returns-in_err-test_model : goal.returns-in_err-test_model
returns-in_err-test_model c =
    let a = c.args in
    let t : ModelTables = model_tables a.h_words.now a.h_coeffs.now a.jumps.now a.rates.now a.t_words.now a.t_numbers.now in
    handed_on _ _ c.from_residual.ensures.1 ∙ model_refused a.m t a.words.now a.h_index a.j_index a.mask _ (sym c.test_model.ensures ∙ c.in_err-test_model.was)

pub returns-then-count-gt-MAX_WORDS : goal.returns-then-count-gt-MAX_WORDS
returns-then-count-gt-MAX_WORDS c =
    let a = c.args in
    let t : ModelTables = model_tables a.h_words.now a.h_coeffs.now a.jumps.now a.rates.now a.t_words.now a.t_numbers.now in
    words_many a.m t a.words.now a.h_index a.j_index a.mask (sym c.test_model.ensures ∙ c.in_ok-test_model.was) c.if-count-gt-MAX_WORDS.true

pub returns-then-words-count : goal.returns-then-words-count
returns-then-words-count c =
    let a = c.args in
    let t : ModelTables = model_tables a.h_words.now a.h_coeffs.now a.jumps.now a.rates.now a.t_words.now a.t_numbers.now in
    c.mismatch.ensures ∙ lanes_over a.m t a.words.now a.h_index a.j_index a.mask (sym c.test_model.ensures ∙ c.in_ok-test_model.was) c.if-count-gt-MAX_WORDS.false (ne_eqb _ _ c.if-words-count.true)

pub overflow_mul-m : goal.overflow_mul-m
overflow_mul-m c =
    let a = c.args in
    let t : ModelTables = model_tables a.h_words.now a.h_coeffs.now a.jumps.now a.rates.now a.t_words.now a.t_numbers.now in
    let s = tested_stands a.m t (sym c.test_model.ensures ∙ c.in_ok-test_model.was) in
    omega (arith, s.qubits)

pub returns-then-h_index-rows : goal.returns-then-h_index-rows
returns-then-h_index-rows c =
    let a = c.args in
    let t : ModelTables = model_tables a.h_words.now a.h_coeffs.now a.jumps.now a.rates.now a.t_words.now a.t_numbers.now in
    c.mismatch-then-h_index-rows.ensures ∙ h_index_short a.m t a.words.now a.h_index a.j_index a.mask (sym c.test_model.ensures ∙ c.in_ok-test_model.was) c.if-count-gt-MAX_WORDS.false (eq-eqb _ _ c.if-words-count.false) c.where_any-rows.ensures c.where_any-row.ensures c.if-h_index-rows.true

pub returns-then-j_index-rows : goal.returns-then-j_index-rows
returns-then-j_index-rows c =
    let a = c.args in
    let t : ModelTables = model_tables a.h_words.now a.h_coeffs.now a.jumps.now a.rates.now a.t_words.now a.t_numbers.now in
    c.mismatch-then-j_index-rows.ensures ∙ j_index_short a.m t a.words.now a.h_index a.j_index a.mask (sym c.test_model.ensures ∙ c.in_ok-test_model.was) c.if-count-gt-MAX_WORDS.false (eq-eqb _ _ c.if-words-count.false) c.where_any-rows.ensures c.where_any-row.ensures c.if-h_index-rows.false c.if-j_index-rows.true

pub returns-then-mask-row : goal.returns-then-mask-row
returns-then-mask-row c =
    let a = c.args in
    let t : ModelTables = model_tables a.h_words.now a.h_coeffs.now a.jumps.now a.rates.now a.t_words.now a.t_numbers.now in
    c.mismatch-then-mask-row.ensures ∙ mask_short a.m t a.words.now a.h_index a.j_index a.mask (sym c.test_model.ensures ∙ c.in_ok-test_model.was) c.if-count-gt-MAX_WORDS.false (eq-eqb _ _ c.if-words-count.false) c.where_any-rows.ensures c.where_any-row.ensures c.if-h_index-rows.false c.if-j_index-rows.false c.if-mask-row.true

pub returns-then-first-count : goal.returns-then-first-count
returns-then-first-count c =
    let a = c.args in
    let t : ModelTables = model_tables a.h_words.now a.h_coeffs.now a.jumps.now a.rates.now a.t_words.now a.t_numbers.now in
    word_outside a.m t a.words.now a.h_index a.j_index a.mask (sym c.test_model.ensures ∙ c.in_ok-test_model.was) c.if-count-gt-MAX_WORDS.false (eq-eqb _ _ c.if-words-count.false) c.where_any-rows.ensures c.where_any-row.ensures c.if-h_index-rows.false c.if-j_index-rows.false c.if-mask-row.false _ c.first_outside-first.ensures c.if-first-count.true

pub returns : goal.returns
returns c =
    let a = c.args in
    let t : ModelTables = model_tables a.h_words.now a.h_coeffs.now a.jumps.now a.rates.now a.t_words.now a.t_numbers.now in
    words_accepted a.m t a.words.now a.h_index a.j_index a.mask (sym c.test_model.ensures ∙ c.in_ok-test_model.was) c.if-count-gt-MAX_WORDS.false (eq-eqb _ _ c.if-words-count.false) c.where_any-rows.ensures c.where_any-row.ensures c.if-h_index-rows.false c.if-j_index-rows.false c.if-mask-row.false _ c.first_outside-first.ensures c.if-first-count.false
