-- SPDX-FileCopyrightText: 2026 The PPVM Authors
-- SPDX-License-Identifier: Apache-2.0

-- `begin::begin_step` meets its contract: the tests, and the copy where they are passed. Assumes nothing.
use mathlib.Core.Path.{sym, ◌∙◌}
use lib.ListN.{length}
use Rattle.model.specs.Stored.{ModelTables}
use Rattle.model.specs.Between.{model_tables}
use Rattle.step_parts.proofs.ReadyLaws.{copy_ready}
use Rattle.step_parts.proofs.begin.begin_step.Goals as goal

pub copy_given-requires : goal.copy_given-requires
copy_given-requires c =
    let a = c.args in
    let t : ModelTables = model_tables a.h_words.now a.h_coeffs.now a.jumps.now a.rates.now a.t_words.now a.t_numbers.now in
    copy_ready a.m t a.words.now a.coeffs.now a.len a.protected.now a.limits a.dt a.drop_tol a.h_index a.j_index a.mask a.order (length a.heads.now) (length a.nexts.now) a.place_order a.cand_sums a.list_values a.work_sums (length a.grown_words.now) (length a.start.now) (length a.evolved.now) (sym c.check_step.ensures.0 ∙ c.in_ok-check_step.was)
