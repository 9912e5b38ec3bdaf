-- SPDX-FileCopyrightText: 2026 The PPVM Authors
-- SPDX-License-Identifier: Apache-2.0

-- `count::count_action_terms` meets its contract. Assumes nothing.
use mathlib.Core.Path.{sym, ◌∙◌}
use Rattle.refusal.proofs.Told.{handed_on}
use Rattle.model.specs.Stored.{ModelTables}
use Rattle.action.proofs.CountLaws.{count_refused}
use Rattle.model.specs.Between.{model_tables}
use Rattle.action.proofs.count.count_action_terms.Goals as goal

pub returns-in_err-check_words : goal.returns-in_err-check_words
returns-in_err-check_words c =
    let a = c.args in
    let t : ModelTables = model_tables a.h_words.now a.h_coeffs.now a.jumps.now a.rates.now a.t_words.now a.t_numbers.now in
    rw (handed_on _ _ c.from_residual.ensures.1) (count_refused a.h_index.now a.j_index.now a.mask.now a.work_words.now a.work_sums.now a.m t a.list.now _ (sym c.check_words.ensures ∙ c.in_err-check_words.was))
