-- SPDX-FileCopyrightText: 2026 The PPVM Authors
-- SPDX-License-Identifier: Apache-2.0

-- `product::dot` meets its contract. Assumes nothing.
use mathlib.Core.Path.{sym, ◌∙◌}
use native.Mathlib.Omega.{arith}
use Rattle.refusal.proofs.Told.{handed_on}
use Rattle.csr.proofs.CheckLaws.{lengths_agree}
use Rattle.csr.proofs.AnswerLaws.{lengths_refused, lengths_passed}
use Rattle.csr.proofs.product.dot.Goals as goal

pub returns-in_err-check_lengths : goal.returns-in_err-check_lengths
returns-in_err-check_lengths c =
    let a = c.args in
    rw (handed_on _ _ c.from_residual.ensures.1) (lengths_refused a.rows a.offsets.now a.columns.now a.values.now a.input.now a.overwrite a.output.now a.work.now _ (sym c.check_lengths.ensures ∙ c.in_err-check_lengths.was))

pub multiply_rows-requires : goal.multiply_rows-requires
multiply_rows-requires c =
    let a = c.args in
    let h = lengths_agree a.rows a.offsets.now a.columns.now a.values.now a.input.now a.output.now a.work.now (sym c.check_lengths.ensures ∙ c.in_ok-check_lengths.was) in
    (omega (arith, h.offsets_agree, h.input_agrees), h.values_agree, omega (arith, h.output_agrees, h.input_agrees), omega (arith, h.work_room, h.input_agrees))

pub returns : goal.returns
returns c =
    let a = c.args in
    lengths_passed a.rows a.offsets.now a.columns.now a.values.now a.input.now a.overwrite a.output.now a.work.now _ (sym c.check_lengths.ensures ∙ c.in_ok-check_lengths.was) c.multiply_rows.ensures
