-- SPDX-FileCopyrightText: 2026 The PPVM Authors
-- SPDX-License-Identifier: Apache-2.0

-- `norm::norm_tested` meets its contract: the norm of the filled columns, and every work table zero. Assumes nothing.
use mathlib.Core.Path.{ap, ◌∙◌}
use Prim.Native.Nat.{ℕ}
use native.Mathlib.Omega.{arith}
use lib.ListN.{length, take, replicate}
use Rattle.word.specs.Flat.{words}
use Rattle.number.specs.Floats.{float0}
use Rattle.model.specs.Stored.{ModelTables}
use Rattle.action.specs.Acts.{sum_places}
use Rattle.norm.proofs.CheckLaws.{norm_passed}
use Rattle.norm.proofs.AnswerLaws.{normed_is, work_zero}
use Rattle.model.specs.Between.{model_tables}
use Rattle.norm.proofs.norm.norm_tested.Goals as goal

pub fill_slotted-filled-requires : goal.fill_slotted-filled-requires
fill_slotted-filled-requires c = c.requires

pub norm_of-normed-requires : goal.norm_of-normed-requires
norm_of-normed-requires c =
    let a = c.args in
    let t : ModelTables = model_tables a.h_words.now a.h_coeffs.now a.jumps.now a.rates.now a.t_words.now a.t_numbers.now in
    let h = norm_passed a.m t a.words.now a.len (length a.h_index.now) (length a.j_index.now) (length a.mask.now) (length a.heads.now) (length a.nexts.now) (length a.raws.now) (length a.diags.now) c.requires in
    let f = c.fill_slotted-filled in
    (omega (arith, h.raws_long, f.auto.raws), omega (arith, h.diags_long, f.auto.diags), h.few)

pub returns : goal.returns
returns c =
    let a = c.args in
    let t : ModelTables = model_tables a.h_words.now a.h_coeffs.now a.jumps.now a.rates.now a.t_words.now a.t_numbers.now in
    let f = c.fill_slotted-filled in (
      c.norm_of-normed.ensures ∙ normed_is (sum_places a.work_words.now a.work_sums.now) a.m t (take a.len (words a.words.now)) a.len _ _ _ f.ensures.0,
      work_zero a.h_index.now a.j_index.now a.mask.now a.heads.now a.nexts.now a.work_words.now a.work_sums.now a.raws.now a.diags.now _ _ _ _ _ _ _ _ _ f.ensures.1 f.ensures.2 f.ensures.3 f.ensures.4 f.ensures.5 f.ensures.6 f.ensures.7
          (c.clear_numbers.ensures ∙ ap (λ (n : ℕ). replicate n float0) f.auto.raws) (c.clear_numbers-2.ensures ∙ ap (λ (n : ℕ). replicate n float0) f.auto.diags),
    )
