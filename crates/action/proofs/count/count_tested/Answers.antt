-- SPDX-FileCopyrightText: 2026 The PPVM Authors
-- SPDX-License-Identifier: Apache-2.0

-- `count::count_tested` meets its contract. Assumes nothing.
use mathlib.Core.Path.{refl, ap, ◌∙◌}
use Prim.Native.Nat.{ℕ}
use native.Mathlib.Omega.{arith}
use lib.ListN.{length, replicate}
use Rattle.number.specs.Floats.{float0}
use Rattle.model.specs.Stored.{ModelTables}
use Rattle.model.proofs.StandsLaws.{tested_stands}
use Rattle.action.proofs.WordsLaws.{words_passed}
use Rattle.action.proofs.CountLaws.{count_answered}
use Rattle.model.specs.Between.{model_tables}
use Rattle.action.proofs.count.count_tested.Goals as goal

pub index_model-requires : goal.index_model-requires
index_model-requires c =
    let a = c.args in
    let t : ModelTables = model_tables a.h_words.now a.h_coeffs.now a.jumps.now a.rates.now a.t_words.now a.t_numbers.now in
    let h = words_passed a.m t a.list.now (length a.h_index.now) (length a.j_index.now) (length a.mask.now) c.requires in
    let k = tested_stands a.m t h.model in
    λ w. (h.h_long w, h.j_long w, k.few_reals, k.few_jumps, k.h_words_room, k.jumps_room, k.rates_room, k.t_words_room, k.fits)

pub most_places-counted-requires : goal.most_places-counted-requires
most_places-counted-requires c =
    let a = c.args in
    let t : ModelTables = model_tables a.h_words.now a.h_coeffs.now a.jumps.now a.rates.now a.t_words.now a.t_numbers.now in
    let h = words_passed a.m t a.list.now (length a.h_index.now) (length a.j_index.now) (length a.mask.now) c.requires in
    let q = c.index_model in
    let e = c.smaller-room.ensures in
    (h.model, (λ w. (q.ensures w t refl refl refl refl, omega (arith, h.h_long w, q.auto.h_index), omega (arith, h.j_long w, q.auto.j_index), h.mask_long w)), omega (arith, e), omega (arith, e), h.inside)

pub returns : goal.returns
returns c =
    let a = c.args in
    let t : ModelTables = model_tables a.h_words.now a.h_coeffs.now a.jumps.now a.rates.now a.t_words.now a.t_numbers.now in
    let q = c.index_model in
    let r = c.most_places-counted in
    count_answered a.h_index.now a.j_index.now a.mask.now a.work_words.now a.work_sums.now a.m t a.list.now c.requires _ _ _ _ _ _ _ c.smaller-room.ensures r.ensures
    (c.clear_lanes.ensures ∙ ap (λ (n : ℕ). replicate n 0) q.auto.h_index)
    (c.clear_lanes-2.ensures ∙ ap (λ (n : ℕ). replicate n 0) q.auto.j_index)
    (c.clear_lanes-3.ensures ∙ ap (λ (n : ℕ). replicate n 0) r.auto.mask)
    (c.clear_lanes-4.ensures ∙ ap (λ (n : ℕ). replicate n 0) r.auto.work_words)
    (c.clear_numbers.ensures ∙ ap (λ (n : ℕ). replicate n float0) r.auto.work_sums)
