-- SPDX-FileCopyrightText: 2026 The PPVM Authors
-- SPDX-License-Identifier: Apache-2.0

-- `check::check_norm` meets its contract, answer by answer. Assumes nothing.
use mathlib.Core.Path.{sym, ◌∙◌}
use native.Mathlib.Omega.{arith}
use Rattle.refusal.proofs.Told.{handed_on}
use Rattle.model.specs.Stored.{ModelTables}
use Rattle.model.proofs.StandsLaws.{tested_stands}
use Rattle.norm.proofs.CheckLaws.{model_refused, words_many, words_short, h_index_short, j_index_short, mask_short, heads_short, nexts_short, raws_short, diags_short, word_outside, norm_accepted}
use Rattle.model.specs.Between.{model_tables}
use Rattle.norm.proofs.check.check_norm.Goals as goal

pub returns-in_err-test_model : goal.returns-in_err-test_model
returns-in_err-test_model c =
    let a = c.args in
    let t : ModelTables = model_tables a.h_words.now a.h_coeffs.now a.jumps.now a.rates.now a.t_words.now a.t_numbers.now in
    handed_on _ _ c.from_residual.ensures.1 ∙ model_refused a.m t a.words.now a.len a.h_index a.j_index a.mask a.heads a.nexts a.raws a.diags _ (sym c.test_model.ensures ∙ c.in_err-test_model.was)

pub returns-then-len-gt-MAX_WORDS : goal.returns-then-len-gt-MAX_WORDS
returns-then-len-gt-MAX_WORDS c =
    let a = c.args in
    let t : ModelTables = model_tables a.h_words.now a.h_coeffs.now a.jumps.now a.rates.now a.t_words.now a.t_numbers.now in
    words_many a.m t a.words.now a.len a.h_index a.j_index a.mask a.heads a.nexts a.raws a.diags (sym c.test_model.ensures ∙ c.in_ok-test_model.was) c.if-len-gt-MAX_WORDS.true

pub returns-then-places-len : goal.returns-then-places-len
returns-then-places-len c =
    let a = c.args in
    let t : ModelTables = model_tables a.h_words.now a.h_coeffs.now a.jumps.now a.rates.now a.t_words.now a.t_numbers.now in
    c.mismatch.ensures ∙ words_short a.m t a.words.now a.len a.h_index a.j_index a.mask a.heads a.nexts a.raws a.diags (sym c.test_model.ensures ∙ c.in_ok-test_model.was) c.if-len-gt-MAX_WORDS.false c.if-places-len.true

pub overflow_mul-m : goal.overflow_mul-m
overflow_mul-m c =
    let a = c.args in
    let t : ModelTables = model_tables a.h_words.now a.h_coeffs.now a.jumps.now a.rates.now a.t_words.now a.t_numbers.now in
    let s = tested_stands a.m t (sym c.test_model.ensures ∙ c.in_ok-test_model.was) in
    omega (arith, s.qubits)

pub returns-then-h_index-rows : goal.returns-then-h_index-rows
returns-then-h_index-rows c =
    let a = c.args in
    let t : ModelTables = model_tables a.h_words.now a.h_coeffs.now a.jumps.now a.rates.now a.t_words.now a.t_numbers.now in
    c.mismatch-then-h_index-rows.ensures ∙ h_index_short a.m t a.words.now a.len a.h_index a.j_index a.mask a.heads a.nexts a.raws a.diags (sym c.test_model.ensures ∙ c.in_ok-test_model.was) c.if-len-gt-MAX_WORDS.false c.if-places-len.false c.where_any-rows.ensures c.where_any-row.ensures c.if-h_index-rows.true

pub returns-then-j_index-rows : goal.returns-then-j_index-rows
returns-then-j_index-rows c =
    let a = c.args in
    let t : ModelTables = model_tables a.h_words.now a.h_coeffs.now a.jumps.now a.rates.now a.t_words.now a.t_numbers.now in
    c.mismatch-then-j_index-rows.ensures ∙ j_index_short a.m t a.words.now a.len a.h_index a.j_index a.mask a.heads a.nexts a.raws a.diags (sym c.test_model.ensures ∙ c.in_ok-test_model.was) c.if-len-gt-MAX_WORDS.false c.if-places-len.false c.where_any-rows.ensures c.where_any-row.ensures c.if-h_index-rows.false c.if-j_index-rows.true

pub returns-then-mask-row : goal.returns-then-mask-row
returns-then-mask-row c =
    let a = c.args in
    let t : ModelTables = model_tables a.h_words.now a.h_coeffs.now a.jumps.now a.rates.now a.t_words.now a.t_numbers.now in
    c.mismatch-then-mask-row.ensures ∙ mask_short a.m t a.words.now a.len a.h_index a.j_index a.mask a.heads a.nexts a.raws a.diags (sym c.test_model.ensures ∙ c.in_ok-test_model.was) c.if-len-gt-MAX_WORDS.false c.if-places-len.false c.where_any-rows.ensures c.where_any-row.ensures c.if-h_index-rows.false c.if-j_index-rows.false c.if-mask-row.true

pub returns-then-heads-len : goal.returns-then-heads-len
returns-then-heads-len c =
    let a = c.args in
    let t : ModelTables = model_tables a.h_words.now a.h_coeffs.now a.jumps.now a.rates.now a.t_words.now a.t_numbers.now in
    c.mismatch-then-heads-len.ensures ∙ heads_short a.m t a.words.now a.len a.h_index a.j_index a.mask a.heads a.nexts a.raws a.diags (sym c.test_model.ensures ∙ c.in_ok-test_model.was) c.if-len-gt-MAX_WORDS.false c.if-places-len.false c.where_any-rows.ensures c.where_any-row.ensures c.if-h_index-rows.false c.if-j_index-rows.false c.if-mask-row.false c.if-heads-len.true

pub returns-then-nexts-len : goal.returns-then-nexts-len
returns-then-nexts-len c =
    let a = c.args in
    let t : ModelTables = model_tables a.h_words.now a.h_coeffs.now a.jumps.now a.rates.now a.t_words.now a.t_numbers.now in
    c.mismatch-then-nexts-len.ensures ∙ nexts_short a.m t a.words.now a.len a.h_index a.j_index a.mask a.heads a.nexts a.raws a.diags (sym c.test_model.ensures ∙ c.in_ok-test_model.was) c.if-len-gt-MAX_WORDS.false c.if-places-len.false c.where_any-rows.ensures c.where_any-row.ensures c.if-h_index-rows.false c.if-j_index-rows.false c.if-mask-row.false c.if-heads-len.false c.if-nexts-len.true

pub returns-then-raws-len : goal.returns-then-raws-len
returns-then-raws-len c =
    let a = c.args in
    let t : ModelTables = model_tables a.h_words.now a.h_coeffs.now a.jumps.now a.rates.now a.t_words.now a.t_numbers.now in
    c.mismatch-then-raws-len.ensures ∙ raws_short a.m t a.words.now a.len a.h_index a.j_index a.mask a.heads a.nexts a.raws a.diags (sym c.test_model.ensures ∙ c.in_ok-test_model.was) c.if-len-gt-MAX_WORDS.false c.if-places-len.false c.where_any-rows.ensures c.where_any-row.ensures c.if-h_index-rows.false c.if-j_index-rows.false c.if-mask-row.false c.if-heads-len.false c.if-nexts-len.false c.if-raws-len.true

pub returns-then-diags-len : goal.returns-then-diags-len
returns-then-diags-len c =
    let a = c.args in
    let t : ModelTables = model_tables a.h_words.now a.h_coeffs.now a.jumps.now a.rates.now a.t_words.now a.t_numbers.now in
    c.mismatch-then-diags-len.ensures ∙ diags_short a.m t a.words.now a.len a.h_index a.j_index a.mask a.heads a.nexts a.raws a.diags (sym c.test_model.ensures ∙ c.in_ok-test_model.was) c.if-len-gt-MAX_WORDS.false c.if-places-len.false c.where_any-rows.ensures c.where_any-row.ensures c.if-h_index-rows.false c.if-j_index-rows.false c.if-mask-row.false c.if-heads-len.false c.if-nexts-len.false c.if-raws-len.false c.if-diags-len.true

pub returns-then-first-len : goal.returns-then-first-len
returns-then-first-len c =
    let a = c.args in
    let t : ModelTables = model_tables a.h_words.now a.h_coeffs.now a.jumps.now a.rates.now a.t_words.now a.t_numbers.now in
    word_outside a.m t a.words.now a.len a.h_index a.j_index a.mask a.heads a.nexts a.raws a.diags (sym c.test_model.ensures ∙ c.in_ok-test_model.was) c.if-len-gt-MAX_WORDS.false c.if-places-len.false c.where_any-rows.ensures c.where_any-row.ensures c.if-h_index-rows.false c.if-j_index-rows.false c.if-mask-row.false c.if-heads-len.false c.if-nexts-len.false c.if-raws-len.false c.if-diags-len.false _ c.first_outside-first.ensures c.if-first-len.true

pub returns : goal.returns
returns c =
    let a = c.args in
    let t : ModelTables = model_tables a.h_words.now a.h_coeffs.now a.jumps.now a.rates.now a.t_words.now a.t_numbers.now in
    norm_accepted a.m t a.words.now a.len a.h_index a.j_index a.mask a.heads a.nexts a.raws a.diags (sym c.test_model.ensures ∙ c.in_ok-test_model.was) c.if-len-gt-MAX_WORDS.false c.if-places-len.false c.where_any-rows.ensures c.where_any-row.ensures c.if-h_index-rows.false c.if-j_index-rows.false c.if-mask-row.false c.if-heads-len.false c.if-nexts-len.false c.if-raws-len.false c.if-diags-len.false _ c.first_outside-first.ensures c.if-first-len.false
