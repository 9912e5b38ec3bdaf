-- SPDX-FileCopyrightText: 2026 The PPVM Authors
-- SPDX-License-Identifier: Apache-2.0

-- `hop::hop` meets its contract: the two calls pass their tests. Assumes nothing.
use Rattle.model.specs.Stored.{ModelTables}
use Rattle.model.specs.Between.{model_tables}
use Rattle.leakage.specs.Leakages.{Work, work_of}
use Rattle.step_legs.proofs.HopLaws.{list_stands, hop_is}
use Rattle.step_legs.proofs.hop.hop.Goals as goal

pub enter_listed-requires : goal.enter_listed-requires
enter_listed-requires c =
    let a = c.args in
    let t : ModelTables = model_tables a.h_words.now a.h_coeffs.now a.jumps.now a.rates.now a.t_words.now a.t_numbers.now in
    let w : Work = work_of a.h_index.now a.j_index.now a.mask.now a.work_words.now a.work_sums.now a.order.now a.heads.now a.nexts.now a.cand_words.now a.cand_sums.now a.place_order.now a.place_work.now in
    (list_stands a.m t a.protected.now a.limits c.requires.given a.places a.len a.grown_words.now a.start.now a.evolved.now w a.list_words.now a.list_values.now c.requires.long c.requires.holds _ c.leakage_with_prune-leaked.ensures, c.requires.long.grown_long, c.requires.long.start_long)

pub returns : goal.returns
returns c =
    let a = c.args in
    let t : ModelTables = model_tables a.h_words.now a.h_coeffs.now a.jumps.now a.rates.now a.t_words.now a.t_numbers.now in
    let w : Work = work_of a.h_index.now a.j_index.now a.mask.now a.work_words.now a.work_sums.now a.order.now a.heads.now a.nexts.now a.cand_words.now a.cand_sums.now a.place_order.now a.place_work.now in
    let e = c.enter_listed.ensures in
    hop_is a.m t a.protected.now a.limits c.requires.given a.places a.len a.grown_words.now a.start.now a.evolved.now w a.list_words.now a.list_values.now c.requires.long c.requires.holds _ c.leakage_with_prune-leaked.ensures _ c.word_limit-limit.ensures _ _ _ _ _ _ e.0 _ _ e.1 e.2
