-- SPDX-FileCopyrightText: 2026 The PPVM Authors
-- SPDX-License-Identifier: Apache-2.0

-- `norm::fill_and_clear` meets its contract: filling keeps the lengths, so each table is zero over the length that it came with.
-- Assumes nothing.
use mathlib.Core.Path.{refl, ap, ◌∙◌}
use Prim.Native.Nat.{ℕ}
use native.Mathlib.Omega.{arith}
use lib.ListN.{length, replicate}
use Rattle.number.specs.Floats.{float0}
use Rattle.model.specs.Stored.{ModelTables}
use Rattle.model.proofs.StandsLaws.{tested_stands}
use Rattle.norm.proofs.CheckLaws.{norm_passed}
use Rattle.norm.proofs.FillLaws.{fills_places}
use Rattle.model.specs.Between.{model_tables}
use Rattle.norm.proofs.norm.fill_and_clear.Goals as goal

pub index_model-requires : goal.index_model-requires
index_model-requires c =
    let a = c.args in
    let t : ModelTables = model_tables a.h_words.now a.h_coeffs.now a.jumps.now a.rates.now a.t_words.now a.t_numbers.now in
    let h = norm_passed a.m t a.words.now a.len (length a.h_index.now) (length a.j_index.now) (length a.mask.now) (length a.heads.now) (length a.nexts.now) (length a.raws.now) (length a.diags.now) c.requires.0 in
    let k = tested_stands a.m t h.model in
    λ w. (h.h_long w, h.j_long w, k.few_reals, k.few_jumps, k.h_words_room, k.jumps_room, k.rates_room, k.t_words_room, k.fits)

pub fill_columns-filled-requires : goal.fill_columns-filled-requires
fill_columns-filled-requires c =
    let a = c.args in
    let t : ModelTables = model_tables a.h_words.now a.h_coeffs.now a.jumps.now a.rates.now a.t_words.now a.t_numbers.now in
    let h = norm_passed a.m t a.words.now a.len (length a.h_index.now) (length a.j_index.now) (length a.mask.now) (length a.heads.now) (length a.nexts.now) (length a.raws.now) (length a.diags.now) c.requires.0 in
    let q = c.index_model in
    let e = c.smaller-room.ensures in
    record {
      tested = h.model;
      indexed = λ w. q.ensures w t refl refl refl refl;
      h_rows = λ w. omega (arith, h.h_long w, q.auto.h_index);
      j_rows = λ w. omega (arith, h.j_long w, q.auto.j_index);
      row = h.mask_long;
      work_words = omega (arith, e);
      work_sums = omega (arith, e);
      few = h.few;
      slotted = c.requires.1;
      inside = h.inside;
      raws_long = h.raws_long;
      diags_long = h.diags_long;
    }

pub returns : goal.returns
returns c =
    let q = c.index_model in
    let f = c.fill_columns-filled in (
      fills_places _ _ _ _ _ _ _ c.smaller-room.ensures f.ensures,
      c.clear_lanes.ensures ∙ ap (λ (n : ℕ). replicate n 0) q.auto.h_index,
      c.clear_lanes-2.ensures ∙ ap (λ (n : ℕ). replicate n 0) q.auto.j_index,
      c.clear_lanes-3.ensures ∙ ap (λ (n : ℕ). replicate n 0) f.auto.mask,
      c.clear_lanes-4.ensures ∙ ap (λ (n : ℕ). replicate n 0) f.auto.work_words,
      c.clear_numbers.ensures ∙ ap (λ (n : ℕ). replicate n float0) f.auto.work_sums,
    )
