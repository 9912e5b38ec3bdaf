-- SPDX-FileCopyrightText: 2026 The PPVM Authors
-- SPDX-License-Identifier: Apache-2.0

-- `rows::row_columns` meets its contract: the row stands inside. Assumes nothing.
use mathlib.Core.Path.{ap}
use lib.ListN.{length}
use Rattle.matrix_row.specs.Rows.{part_of, row_of}
use Rattle.matrix_row.specs.declared.rows.Row.{Row}
use Rattle.matrix_row.proofs.RowLaws.{Inside, row_inside}
use borrow.Author.Rules.{rules}
use Rattle.csr.proofs.rows.row_columns.Goals as goal
use Rattle.csr.proofs.rows.row_columns.Goals.{After-row_bounds-bounds}

within : (c : After-row_bounds-bounds) → Inside c.args.offsets.now (length c.args.columns.now) c.args.row c.row_bounds-bounds.result
within c =
    let a = c.args in
    rw c.row_bounds-bounds.ensures (row_inside a.offsets.now (length a.columns.now) a.row)

pub offset_bounds-columns-start : goal.offset_bounds-columns-start
offset_bounds-columns-start c =
    let h1 = (within (goal.at.offset_bounds-columns-start c).After-row_bounds-bounds).ordered in
    let h2 = (within (goal.at.offset_bounds-columns-start c).After-row_bounds-bounds).within in
    search rules

pub slice_bounds-result-count : goal.slice_bounds-result-count
slice_bounds-result-count c = (within (goal.at.slice_bounds-result-count c).After-row_bounds-bounds).ordered

pub slice_bounds-result-start : goal.slice_bounds-result-start
slice_bounds-result-start c = (within (goal.at.slice_bounds-result-start c).After-row_bounds-bounds).ordered

pub slice_bounds-result-end : goal.slice_bounds-result-end
slice_bounds-result-end c = (within (goal.at.slice_bounds-result-end c).After-row_bounds-bounds).within

pub returns : goal.returns
unfolding row_of part_of
returns c = let a = c.args in ap (λ (r : Row). part_of r a.columns.now) c.row_bounds-bounds.ensures
