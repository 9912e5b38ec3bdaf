-- SPDX-FileCopyrightText: 2026 The PPVM Authors
-- SPDX-License-Identifier: Apache-2.0

-- `degree::expm_degree` meets its contract. Assumes nothing.
use mathlib.Core.Path.{sym, ◌∙◌}
use Rattle.refusal.proofs.Told.{handed_on}
use Rattle.model.specs.Stored.{ModelTables}
use Rattle.lent.proofs.Passed.{both}
use Rattle.norm.specs.Norms.{Work, work_of}
use Rattle.norm.proofs.AnswerLaws.{degree_stops, degree_goes}
use Rattle.model.specs.Between.{model_tables}
use Rattle.norm.proofs.degree.expm_degree.Goals as goal

pub norm_tested-normed-requires : goal.norm_tested-normed-requires
norm_tested-normed-requires c = (both _ _ (sym c.check_degree.ensures ∙ c.in_ok-check_degree.was)).0

pub returns : goal.returns
returns c =
    let a = c.args in
    let t : ModelTables = model_tables a.h_words.now a.h_coeffs.now a.jumps.now a.rates.now a.t_words.now a.t_numbers.now in
    let w : Work = work_of a.h_index.now a.j_index.now a.mask.now a.heads.now a.nexts.now a.work_words.now a.work_sums.now a.raws.now a.diags.now in
    let n = c.norm_tested-normed.ensures in
    degree_goes w a.m t a.words.now a.len a.dt a.drop_tol (sym c.check_degree.ensures ∙ c.in_ok-check_degree.was) _ n.0 _ _ c.degree_of.ensures n.1

pub returns-in_err-check_degree : goal.returns-in_err-check_degree
returns-in_err-check_degree c =
    let a = c.args in
    let t : ModelTables = model_tables a.h_words.now a.h_coeffs.now a.jumps.now a.rates.now a.t_words.now a.t_numbers.now in
    let w : Work = work_of a.h_index.now a.j_index.now a.mask.now a.heads.now a.nexts.now a.work_words.now a.work_sums.now a.raws.now a.diags.now in
    rw (handed_on _ _ c.from_residual.ensures.1) (degree_stops w a.m t a.words.now a.len a.dt a.drop_tol _ (sym c.check_degree.ensures ∙ c.in_err-check_degree.was))
