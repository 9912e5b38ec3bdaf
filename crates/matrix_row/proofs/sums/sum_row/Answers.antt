-- SPDX-FileCopyrightText: 2026 The PPVM Authors
-- SPDX-License-Identifier: Apache-2.0

-- `sums::sum_row` meets its contract: the entries before k are passed, and summed. Assumes nothing.
use Rattle.std.proofs.Common.{◌<◌, length, sym, ◌∙◌}
use Rattle.matrix_row.proofs.PlaceLaws.{in_place}
use Rattle.matrix_row.proofs.SumLaws.{passing_start, all_passed, stops_misplaced, passing_more}
use Rattle.matrix_row.proofs.sums.sum_row.Goals as goal
use Rattle.matrix_row.proofs.sums.sum_row.Goals.{Else-is_misplaced}

-- the column is one of input's places
below : (c : Else-is_misplaced) → c.wide-column.result < length c.args.input.now
below c = (in_place c.loop-k.least (length c.args.input.now) _ (sym c.is_misplaced.ensures ∙ c.if-is_misplaced.false)).1

pub loop-k-init : goal.loop-k-init
loop-k-init c = passing_start c.args.input.now c.args.columns.now c.args.values.now c.requires

pub returns-then-is_misplaced : goal.returns-then-is_misplaced
returns-then-is_misplaced c =
    let l = c.loop-k in
    stops_misplaced c.args.input.now c.args.columns.now c.args.values.now c.requires l.sum l.least l.k _ l.invariant c.loop-k-test.true c.wide-column.ensures c.is_misplaced.ensures c.if-is_misplaced.true

pub bounds-input-column : goal.bounds-input-column
bounds-input-column c = below (goal.at.bounds-input-column c).Else-is_misplaced

pub loop-k-preserved : goal.loop-k-preserved
loop-k-preserved c =
    let l = c.loop-k in
    passing_more c.args.input.now c.args.columns.now c.args.values.now c.requires l.sum l.least l.k _ l.invariant c.loop-k-test.true c.wide-column.ensures c.is_misplaced.ensures c.if-is_misplaced.false

pub returns : goal.returns
returns c =
    let l = c.loop-k in
    all_passed c.args.input.now c.args.columns.now c.args.values.now c.requires l.sum l.least l.k l.invariant c.loop-k-test.false
