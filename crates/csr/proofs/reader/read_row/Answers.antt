-- SPDX-FileCopyrightText: 2026 The PPVM Authors
-- SPDX-License-Identifier: Apache-2.0

-- `reader::read_row` meets its contract: a refusal, or the row, which stands inside. Assumes nothing.
use mathlib.Core.Path.{◌≡◌, sym, ◌∙◌}
use native.Mathlib.Omega.{arith}
use Rattle.std.specs.Prelude.{Ok}
use Rattle.refusal.proofs.Told.{handed_on}
use Rattle.csr.specs.Rows.{row_tests}
use Rattle.csr.proofs.ReadLaws.{Stands, stands, ends_inside, read_at, read_refused}
use borrow.Author.Rules.{rules}
use Rattle.csr.proofs.reader.read_row.Goals as goal
use Rattle.csr.proofs.reader.read_row.Goals.{In_ok-check_row}

passed : (c : In_ok-check_row) → row_tests c.args.rows c.args.offsets.now c.args.columns.now c.args.row ≡ Ok tt
passed c = sym c.check_row.ensures ∙ c.in_ok-check_row.was

there : (c : In_ok-check_row) → Stands c.args.rows c.args.offsets.now c.args.columns.now c.args.row
there c = let a = c.args in stands a.rows a.offsets.now a.columns.now a.row (passed c)

pub offset_bounds-offsets-row : goal.offset_bounds-offsets-row
offset_bounds-offsets-row c =
    let h1 = (there (goal.at.offset_bounds-offsets-row c).In_ok-check_row).agree in
    let h2 = (there (goal.at.offset_bounds-offsets-row c).In_ok-check_row).is_row in
    search rules

pub bounds-offsets-row : goal.bounds-offsets-row
bounds-offsets-row c = omega (arith, (there (goal.at.bounds-offsets-row c).In_ok-check_row).agree, (there (goal.at.bounds-offsets-row c).In_ok-check_row).is_row)

pub overflow_add-end : goal.overflow_add-end
overflow_add-end c =
    let a = c.args in
    let h = ends_inside a.rows a.offsets.now a.columns.now a.row (there (goal.at.overflow_add-end c).In_ok-check_row) c.read_columns-handed.result.now c.read_columns-handed.ensures in
    search rules

pub returns : goal.returns
returns c =
    let a = c.args in
    read_at a.rows a.offsets.now a.columns.now a.row (there (goal.at.returns c).In_ok-check_row) (passed (goal.at.returns c).In_ok-check_row) c.read_columns-handed.result.now c.read_columns-handed.ensures

pub returns-in_err-check_row : goal.returns-in_err-check_row
returns-in_err-check_row c =
    let a = c.args in
    handed_on _ _ c.from_residual.ensures.1 ∙ read_refused a.rows a.offsets.now a.columns.now a.row _ (sym c.check_row.ensures ∙ c.in_err-check_row.was)
