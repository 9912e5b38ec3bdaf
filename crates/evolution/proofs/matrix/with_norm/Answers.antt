-- SPDX-FileCopyrightText: 2026 The PPVM Authors
-- SPDX-License-Identifier: Apache-2.0

-- `matrix::with_norm` meets its contract: the refusal handed on, or the largest raw. Assumes nothing.
use mathlib.Core.Path.{sym, ◌∙◌}
use Rattle.refusal.proofs.Told.{handed_on}
use lib.Seq.{length-take-le}
use Rattle.evolution.proofs.MatrixLaws.{normed, not_normed}
use Rattle.evolution.proofs.matrix.with_norm.Goals as goal

pub returns-in_err-count : goal.returns-in_err-count
returns-in_err-count c =
    let a = c.args in
    not_normed a.staged a.stage_columns.now a.stage_values.now a.n _ c.from_residual.result c.in_err-count.was (handed_on _ _ c.from_residual.ensures.1)

pub slice_bounds-largest_raw-end : goal.slice_bounds-largest_raw-end
slice_bounds-largest_raw-end c =
    let a = c.args in
    sym (length-take-le _ a.stage_columns.now (c.requires _ c.in_ok-count.was).0)

pub slice_bounds-largest_raw-end-2 : goal.slice_bounds-largest_raw-end-2
slice_bounds-largest_raw-end-2 c =
    let a = c.args in
    sym (length-take-le _ a.stage_values.now (c.requires _ c.in_ok-count.was).1)

pub largest_raw-norm-requires : goal.largest_raw-norm-requires
largest_raw-norm-requires c =
    let a = c.args in
    let h = c.requires _ c.in_ok-count.was in
    length-take-le _ a.stage_values.now h.1 ∙ sym (length-take-le _ a.stage_columns.now h.0)

pub returns : goal.returns
returns c =
    let a = c.args in
    normed a.staged a.stage_columns.now a.stage_values.now a.n _ _ c.in_ok-count.was c.largest_raw-norm.ensures
