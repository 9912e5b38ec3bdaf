-- SPDX-FileCopyrightText: 2026 The PPVM Authors
-- SPDX-License-Identifier: Apache-2.0

-- `norm::norm` meets its contract. Assumes nothing.
use mathlib.Core.Path.{sym, ◌∙◌}
use Rattle.refusal.proofs.Told.{handed_on}
use Rattle.model.specs.Stored.{ModelTables}
use Rattle.norm.specs.Norms.{Work, work_of}
use Rattle.norm.proofs.AnswerLaws.{norm_stops, norm_goes}
use Rattle.model.specs.Between.{model_tables}
use Rattle.norm.proofs.norm.norm.Goals as goal

pub norm_tested-requires : goal.norm_tested-requires
norm_tested-requires c = sym c.check_norm.ensures ∙ c.in_ok-check_norm.was

pub returns : goal.returns
returns c =
    let a = c.args in
    let t : ModelTables = model_tables a.h_words.now a.h_coeffs.now a.jumps.now a.rates.now a.t_words.now a.t_numbers.now in
    let w : Work = work_of a.h_index.now a.j_index.now a.mask.now a.heads.now a.nexts.now a.work_words.now a.work_sums.now a.raws.now a.diags.now in
    let n = c.norm_tested.ensures in
    norm_goes w a.m t a.words.now a.len (sym c.check_norm.ensures ∙ c.in_ok-check_norm.was) _ _ n.0 n.1

pub returns-in_err-check_norm : goal.returns-in_err-check_norm
returns-in_err-check_norm c =
    let a = c.args in
    let t : ModelTables = model_tables a.h_words.now a.h_coeffs.now a.jumps.now a.rates.now a.t_words.now a.t_numbers.now in
    let w : Work = work_of a.h_index.now a.j_index.now a.mask.now a.heads.now a.nexts.now a.work_words.now a.work_sums.now a.raws.now a.diags.now in
    rw (handed_on _ _ c.from_residual.ensures.1) (norm_stops w a.m t a.words.now a.len _ (sym c.check_norm.ensures ∙ c.in_err-check_norm.was))
