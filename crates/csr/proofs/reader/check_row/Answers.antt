-- SPDX-FileCopyrightText: 2026 The PPVM Authors
-- SPDX-License-Identifier: Apache-2.0

-- `reader::check_row` meets its contract, answer by answer. Assumes nothing.
use mathlib.Core.Path.{◌≡◌, sym, ◌∙◌}
use Rattle.std.specs.Prelude.{Ok}
use Rattle.refusal.proofs.Told.{handed_on}
use Rattle.csr.specs.Lent.{rows_tests, places_tests}
use Rattle.csr.proofs.CheckLaws.{rows_agree}
use Rattle.csr.proofs.ReadLaws.{lengths_refused, places_refused, row_beyond, all_accepted}
use Rattle.csr.proofs.reader.check_row.Goals as goal
use Rattle.csr.proofs.reader.check_row.Goals.{In_ok-check_rows, In_ok-check_places}

rows_passed : (c : In_ok-check_rows) → rows_tests c.args.rows c.args.offsets.now (Ok tt) ≡ Ok tt
rows_passed c = sym c.check_rows.ensures ∙ c.in_ok-check_rows.was

places_passed : (c : In_ok-check_places) → places_tests c.args.rows c.args.offsets.now c.args.columns.now (Ok tt) ≡ Ok tt
places_passed c = sym c.check_places.ensures ∙ c.in_ok-check_places.was

pub returns-in_err-check_rows : goal.returns-in_err-check_rows
returns-in_err-check_rows c = let a = c.args in handed_on _ _ c.from_residual.ensures.1 ∙ lengths_refused a.rows a.offsets.now a.columns.now a.row _ (sym c.check_rows.ensures ∙ c.in_err-check_rows.was)

pub check_places-requires : goal.check_places-requires
check_places-requires c = let a = c.args in rows_agree a.rows a.offsets.now (rows_passed (goal.at.check_places-requires c).In_ok-check_rows)

pub returns-in_err-check_places : goal.returns-in_err-check_places
returns-in_err-check_places c = let a = c.args in handed_on _ _ c.from_residual-in_err-check_places.ensures.1 ∙ places_refused a.rows a.offsets.now a.columns.now a.row (rows_passed (goal.at.returns-in_err-check_places c).In_ok-check_rows) _ (sym c.check_places.ensures ∙ c.in_err-check_places.was)

pub returns-then-rows-row : goal.returns-then-rows-row
returns-then-rows-row c = let a = c.args in row_beyond a.rows a.offsets.now a.columns.now a.row (rows_passed (goal.at.returns-then-rows-row c).In_ok-check_rows) (places_passed (goal.at.returns-then-rows-row c).In_ok-check_places) c.if-rows-row.true

pub returns : goal.returns
returns c = let a = c.args in all_accepted a.rows a.offsets.now a.columns.now a.row (rows_passed (goal.at.returns c).In_ok-check_rows) (places_passed (goal.at.returns c).In_ok-check_places) c.if-rows-row.false
