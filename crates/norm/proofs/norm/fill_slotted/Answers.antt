-- SPDX-FileCopyrightText: 2026 The PPVM Authors
-- SPDX-License-Identifier: Apache-2.0

-- `norm::fill_slotted` meets its contract: the slots laid keep the lengths, and are zero after. Assumes nothing.
use mathlib.Core.Path.{ap, ◌∙◌}
use Prim.Native.Nat.{ℕ}
use native.Mathlib.Omega.{arith}
use lib.ListN.{length, replicate}
use Rattle.model.specs.Stored.{ModelTables}
use Rattle.model.specs.Between.{model_tables}
use Rattle.norm.proofs.CheckLaws.{norm_passed, slots_lent}
use Rattle.norm.proofs.norm.fill_slotted.Goals as goal

pub lay_basis-requires : goal.lay_basis-requires
lay_basis-requires c =
    let a = c.args in
    let t : ModelTables = model_tables a.h_words.now a.h_coeffs.now a.jumps.now a.rates.now a.t_words.now a.t_numbers.now in
    let h = norm_passed a.m t a.words.now a.len (length a.h_index.now) (length a.j_index.now) (length a.mask.now) (length a.heads.now) (length a.nexts.now) (length a.raws.now) (length a.diags.now) c.requires in
    (omega (arith, h.words_long), h.heads_long, h.nexts_long)

pub fill_and_clear-filled-requires : goal.fill_and_clear-filled-requires
fill_and_clear-filled-requires c =
    let a = c.args in
    let t : ModelTables = model_tables a.h_words.now a.h_coeffs.now a.jumps.now a.rates.now a.t_words.now a.t_numbers.now in
    let b = c.lay_basis in
    (slots_lent a.m t a.words.now a.len (length a.h_index.now) (length a.j_index.now) (length a.mask.now) (length a.heads.now) (length a.nexts.now) (length a.raws.now) (length a.diags.now) _ _ b.auto.heads b.auto.nexts c.requires, b.ensures)

pub returns : goal.returns
returns c =
    let b = c.lay_basis in
    let f = c.fill_and_clear-filled.ensures in (
      f.0,
      f.1,
      f.2,
      f.3,
      c.clear_lanes.ensures ∙ ap (λ (n : ℕ). replicate n 0) b.auto.heads,
      c.clear_lanes-2.ensures ∙ ap (λ (n : ℕ). replicate n 0) b.auto.nexts,
      f.4,
      f.5,
    )
