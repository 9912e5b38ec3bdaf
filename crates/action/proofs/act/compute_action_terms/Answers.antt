-- SPDX-FileCopyrightText: 2026 The PPVM Authors
-- SPDX-License-Identifier: Apache-2.0

-- `act::compute_action_terms` meets its contract. Assumes nothing.
use mathlib.Core.Path.{sym, ◌∙◌}
use Rattle.refusal.proofs.Told.{handed_on}
use Rattle.model.specs.Stored.{ModelTables}
use Rattle.action.proofs.ActLaws.{act_refused}
use Rattle.model.specs.Between.{model_tables}
use Rattle.action.proofs.act.compute_action_terms.Goals as goal

pub returns-in_err-test_model : goal.returns-in_err-test_model
returns-in_err-test_model c =
    let a = c.args in
    let t : ModelTables = model_tables a.h_words.now a.h_coeffs.now a.jumps.now a.rates.now a.t_words.now a.t_numbers.now in
    rw (handed_on _ _ c.from_residual.ensures.1) (act_refused a.out_words.now a.out_values.now a.work_words.now a.work_sums.now a.m t a.p _ (sym c.test_model.ensures ∙ c.in_err-test_model.was))
