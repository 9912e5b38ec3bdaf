-- SPDX-FileCopyrightText: 2026 The PPVM Authors
-- SPDX-License-Identifier: Apache-2.0

-- `check::check_lengths` meets its contract, answer by answer. Assumes nothing.
use mathlib.Core.Path.{◌≡◌, sym, ◌∙◌}
use lib.ListN.{length}
use Rattle.std.specs.Prelude.{Ok}
use Rattle.refusal.proofs.Told.{handed_on}
use Rattle.csr.specs.Lent.{rows_tests}
use Rattle.csr.proofs.CheckLaws.{rows_refused, values_differ, input_differs, output_differs, work_short, lengths_accepted}
use borrow.Author.Tests.{eq-eqb, ne_eqb}
use Rattle.csr.proofs.check.check_lengths.Goals as goal
use Rattle.csr.proofs.check.check_lengths.Goals.{In_ok-check_rows}

passed : (c : In_ok-check_rows) → rows_tests c.args.rows c.args.offsets.now (Ok tt) ≡ Ok tt
passed c = sym c.check_rows.ensures ∙ c.in_ok-check_rows.was

pub returns-in_err-check_rows : goal.returns-in_err-check_rows
returns-in_err-check_rows c =
    let a = c.args in
    handed_on _ _ c.from_residual.ensures.1 ∙ rows_refused a.rows a.offsets.now a.columns.now a.values.now a.input.now a.output.now a.work.now _ (sym c.check_rows.ensures ∙ c.in_err-check_rows.was)

pub returns-then-values-columns : goal.returns-then-values-columns
returns-then-values-columns c =
    let a = c.args in
    c.mismatch.ensures ∙ values_differ a.rows a.offsets.now a.columns.now a.values.now a.input.now a.output.now a.work.now (passed (goal.at.returns-then-values-columns c).In_ok-check_rows) (ne_eqb (length a.values.now) (length a.columns.now) c.if-values-columns.true)

pub returns-then-input-rows : goal.returns-then-input-rows
returns-then-input-rows c =
    let a = c.args in
    c.mismatch-then-input-rows.ensures ∙ input_differs a.rows a.offsets.now a.columns.now a.values.now a.input.now a.output.now a.work.now (passed (goal.at.returns-then-input-rows c).In_ok-check_rows) (eq-eqb (length a.values.now) (length a.columns.now) c.if-values-columns.false) (ne_eqb (length a.input.now) a.rows c.if-input-rows.true)

pub returns-then-output-rows : goal.returns-then-output-rows
returns-then-output-rows c =
    let a = c.args in
    c.mismatch-then-output-rows.ensures ∙ output_differs a.rows a.offsets.now a.columns.now a.values.now a.input.now a.output.now a.work.now (passed (goal.at.returns-then-output-rows c).In_ok-check_rows) (eq-eqb (length a.values.now) (length a.columns.now) c.if-values-columns.false) (eq-eqb (length a.input.now) a.rows c.if-input-rows.false) (ne_eqb (length a.output.now) a.rows c.if-output-rows.true)

pub returns-then-work-rows : goal.returns-then-work-rows
returns-then-work-rows c =
    let a = c.args in
    c.mismatch-then-work-rows.ensures ∙ work_short a.rows a.offsets.now a.columns.now a.values.now a.input.now a.output.now a.work.now (passed (goal.at.returns-then-work-rows c).In_ok-check_rows) (eq-eqb (length a.values.now) (length a.columns.now) c.if-values-columns.false) (eq-eqb (length a.input.now) a.rows c.if-input-rows.false) (eq-eqb (length a.output.now) a.rows c.if-output-rows.false) c.if-work-rows.true

pub returns : goal.returns
returns c =
    let a = c.args in
    lengths_accepted a.rows a.offsets.now a.columns.now a.values.now a.input.now a.output.now a.work.now (passed (goal.at.returns c).In_ok-check_rows) (eq-eqb (length a.values.now) (length a.columns.now) c.if-values-columns.false) (eq-eqb (length a.input.now) a.rows c.if-input-rows.false) (eq-eqb (length a.output.now) a.rows c.if-output-rows.false) c.if-work-rows.false
