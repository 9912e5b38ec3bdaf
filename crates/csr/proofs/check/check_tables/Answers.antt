-- SPDX-FileCopyrightText: 2026 The PPVM Authors
-- SPDX-License-Identifier: Apache-2.0

-- `check::check_tables` meets its contract, answer by answer. Assumes nothing.
use mathlib.Core.Path.{◌≡◌, sym, ◌∙◌}
use Rattle.std.specs.Prelude.{Ok}
use Rattle.refusal.proofs.Told.{handed_on}
use Rattle.csr.specs.Lent.{places_tests}
use Rattle.csr.proofs.CheckLaws.{places_refused, value_bad, input_bad, over_accepted, output_bad, add_accepted}
use Rattle.csr.proofs.check.check_tables.Goals as goal
use Rattle.csr.proofs.check.check_tables.Goals.{In_ok-check_places}

passed : (c : In_ok-check_places) → places_tests c.args.rows c.args.offsets.now c.args.columns.now (Ok tt) ≡ Ok tt
passed c = sym c.check_places.ensures ∙ c.in_ok-check_places.was

pub returns-in_err-check_places : goal.returns-in_err-check_places
returns-in_err-check_places c = let a = c.args in handed_on _ _ c.from_residual.ensures.1 ∙ places_refused a.rows a.offsets.now a.columns.now a.values.now a.input.now a.overwrite a.output.now _ (sym c.check_places.ensures ∙ c.in_err-check_places.was)

pub returns-then-value-values : goal.returns-then-value-values
returns-then-value-values c = let a = c.args in value_bad a.rows a.offsets.now a.columns.now a.values.now a.input.now a.overwrite a.output.now (passed (goal.at.returns-then-value-values c).In_ok-check_places) c.first_not_finite-value.ensures c.if-value-values.true

pub returns-then-x-rows : goal.returns-then-x-rows
returns-then-x-rows c = let a = c.args in input_bad a.rows a.offsets.now a.columns.now a.values.now a.input.now a.overwrite a.output.now (passed (goal.at.returns-then-x-rows c).In_ok-check_places) c.first_not_finite-value.ensures c.if-value-values.false c.first_not_finite-x.ensures c.if-x-rows.true

pub returns-then-overwrite : goal.returns-then-overwrite
returns-then-overwrite c = let a = c.args in over_accepted a.rows a.offsets.now a.columns.now a.values.now a.input.now a.overwrite a.output.now (passed (goal.at.returns-then-overwrite c).In_ok-check_places) c.first_not_finite-value.ensures c.if-value-values.false c.first_not_finite-x.ensures c.if-x-rows.false c.if-overwrite.true

pub returns-then-y-rows : goal.returns-then-y-rows
returns-then-y-rows c = let a = c.args in output_bad a.rows a.offsets.now a.columns.now a.values.now a.input.now a.overwrite a.output.now (passed (goal.at.returns-then-y-rows c).In_ok-check_places) c.first_not_finite-value.ensures c.if-value-values.false c.first_not_finite-x.ensures c.if-x-rows.false c.if-overwrite.false c.first_not_finite-y.ensures c.if-y-rows.true

pub returns : goal.returns
returns c = let a = c.args in add_accepted a.rows a.offsets.now a.columns.now a.values.now a.input.now a.overwrite a.output.now (passed (goal.at.returns c).In_ok-check_places) c.first_not_finite-value.ensures c.if-value-values.false c.first_not_finite-x.ensures c.if-x-rows.false c.if-overwrite.false c.first_not_finite-y.ensures c.if-y-rows.false
