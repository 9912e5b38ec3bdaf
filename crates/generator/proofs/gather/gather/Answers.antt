-- SPDX-FileCopyrightText: 2026 The PPVM Authors
-- SPDX-License-Identifier: Apache-2.0

-- `gather::gather` meets its contract: the columns find what they ask for, and what they used is zero afterwards. Assumes nothing.
use mathlib.Core.Path.{refl, ap, ◌∙◌}
use Prim.Native.Nat.{ℕ}
use lib.ListN.{replicate}
use Rattle.number.specs.Floats.{float0}
use Rattle.word.specs.Flat.{words as words_in}
use Rattle.model.specs.Stored.{ModelTables}
use Rattle.model.proofs.StandsLaws.{tested_stands}
use Rattle.generator.proofs.LentLaws.{model_ready, sums_room, stages_room}
use Rattle.model.specs.Between.{model_tables}
use Rattle.generator.proofs.gather.gather.Goals as goal

pub index_model-requires : goal.index_model-requires
index_model-requires c =
    let a = c.args in
    let t : ModelTables = model_tables a.h_words.now a.h_coeffs.now a.jumps.now a.rates.now a.t_words.now a.t_numbers.now in
    λ w. let h = c.requires.0 w in let k = tested_stands a.m t h.accepted in (h.h_rows, h.j_rows, k.few_reals, k.few_jumps, k.h_words_room, k.jumps_room, k.rates_room, k.t_words_room, k.fits)

pub stage_columns-staged-requires : goal.stage_columns-staged-requires
stage_columns-staged-requires c =
    let a = c.args in
    let t : ModelTables = model_tables a.h_words.now a.h_coeffs.now a.jumps.now a.rates.now a.t_words.now a.t_numbers.now in
    let q = c.index_model in
    ((λ w. model_ready a.m t a.h_index.now _ a.j_index.now _ a.mask.now (c.requires.0 w) (q.ensures w t refl refl refl refl) q.auto.h_index q.auto.j_index), c.requires.1, sums_room a.work_words.now a.work_sums.now c.smaller-sum_room.ensures, c.requires.2)

pub returns : goal.returns
returns c =
    let a = c.args in
    let t : ModelTables = model_tables a.h_words.now a.h_coeffs.now a.jumps.now a.rates.now a.t_words.now a.t_numbers.now in
    let r = c.stage_columns-staged in (
      stages_room a.m t (words_in a.basis.now) a.work_words.now a.work_sums.now a.entry_room c.smaller-sum_room.ensures _ _ _ _ r.ensures,
      c.clear_lanes.ensures ∙ ap (λ (n : ℕ). replicate n 0) c.index_model.auto.h_index,
      c.clear_lanes-2.ensures ∙ ap (λ (n : ℕ). replicate n 0) c.index_model.auto.j_index,
      c.clear_lanes-3.ensures ∙ ap (λ (n : ℕ). replicate n 0) r.auto.mask,
      c.clear_lanes-4.ensures ∙ ap (λ (n : ℕ). replicate n 0) r.auto.work_words,
      c.clear_numbers.ensures ∙ ap (λ (n : ℕ). replicate n float0) r.auto.work_sums,
    )
