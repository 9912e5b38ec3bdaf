-- SPDX-FileCopyrightText: 2026 The PPVM Authors
-- SPDX-License-Identifier: Apache-2.0

-- `check::first_bad_column` meets its contract: the columns before row r pass. Assumes nothing.
use mathlib.Core.Path.{◌≡◌}
use mathlib.Core.List.{List}
use Prim.Native.Nat.{ℕ, ◌+◌, ◌≤◌}
use lib.ListN.{get_or, length}
use Rattle.lent.specs.Tests.{first_to}
use Rattle.lent.proofs.Firsts.{first_before}
use Rattle.matrix_row.specs.Rows.{part_of}
use Rattle.csr.specs.Lent.{bad_offset}
use Rattle.csr.proofs.OffsetLaws.{Rising, rising}
use Rattle.csr.proofs.ColumnLaws.{ordered, within, fails_here, none_fails, none_yet, none_at_all}
use borrow.Author.Rules.{rules}
use Rattle.csr.proofs.check.first_bad_column.Goals as goal
use Rattle.csr.proofs.check.first_bad_column.Goals.{In-loop-r}

offsets_rise : (rows count : ℕ) (offsets : List ℕ) → first_to (rows + 1) (bad_offset rows count offsets) ≡ rows + 1 → Rising rows count offsets
offsets_rise rows count offsets e = rising rows count offsets (rw e at (first_before (rows + 1) (bad_offset rows count offsets)))

-- the row's part lies in order, and inside
in_order : (c : In-loop-r) → get_or c.args.offsets.now c.loop-r.r 0 ≤ get_or c.args.offsets.now (c.loop-r.r + 1) 0
in_order c =
    let a = c.args in
    let l = c.loop-r in
    ordered a.rows a.offsets.now a.columns.now c.requires.0 (offsets_rise a.rows (length a.columns.now) a.offsets.now c.requires.1) l.r c.loop-r-test.true

inside : (c : In-loop-r) → get_or c.args.offsets.now (c.loop-r.r + 1) 0 ≤ length c.args.columns.now
inside c =
    let a = c.args in
    let l = c.loop-r in
    within a.rows a.offsets.now a.columns.now c.requires.0 (offsets_rise a.rows (length a.columns.now) a.offsets.now c.requires.1) l.r c.loop-r-test.true

pub loop-r-init : goal.loop-r-init
loop-r-init c = let a = c.args in none_yet a.rows a.offsets.now a.columns.now c.requires.0 (offsets_rise a.rows (length a.columns.now) a.offsets.now c.requires.1)

pub offset_bounds-columns-start : goal.offset_bounds-columns-start
offset_bounds-columns-start c = let h1 = in_order (goal.at.offset_bounds-columns-start c).In-loop-r in let h2 = inside (goal.at.offset_bounds-columns-start c).In-loop-r in search rules

pub slice_bounds-first_misplaced-count : goal.slice_bounds-first_misplaced-count
slice_bounds-first_misplaced-count c = in_order (goal.at.slice_bounds-first_misplaced-count c).In-loop-r

pub slice_bounds-first_misplaced-start : goal.slice_bounds-first_misplaced-start
slice_bounds-first_misplaced-start c = in_order (goal.at.slice_bounds-first_misplaced-start c).In-loop-r

pub slice_bounds-first_misplaced-end : goal.slice_bounds-first_misplaced-end
slice_bounds-first_misplaced-end c = inside (goal.at.slice_bounds-first_misplaced-end c).In-loop-r

pub overflow_sub-end : goal.overflow_sub-end
overflow_sub-end c = in_order (goal.at.overflow_sub-end c).In-loop-r

pub returns-then-k-end : goal.returns-then-k-end
unfolding part_of
returns-then-k-end c =
    let a = c.args in
    let l = c.loop-r in
    fails_here a.rows a.offsets.now a.columns.now c.requires.0 (offsets_rise a.rows (length a.columns.now) a.offsets.now c.requires.1) l.r c.loop-r-test.true c.first_misplaced-k.result l.invariant c.first_misplaced-k.ensures c.if-k-end.true

pub loop-r-preserved : goal.loop-r-preserved
unfolding part_of
loop-r-preserved c =
    let a = c.args in
    let l = c.loop-r in
    none_fails a.rows a.offsets.now a.columns.now c.requires.0 (offsets_rise a.rows (length a.columns.now) a.offsets.now c.requires.1) l.r c.loop-r-test.true c.first_misplaced-k.result l.invariant c.first_misplaced-k.ensures c.if-k-end.false

pub returns : goal.returns
returns c =
    let a = c.args in
    let l = c.loop-r in
    none_at_all a.rows a.offsets.now a.columns.now c.requires.0 (offsets_rise a.rows (length a.columns.now) a.offsets.now c.requires.1) l.r c.loop-r-test.false l.auto.r-end l.invariant
