-- SPDX-FileCopyrightText: 2026 The PPVM Authors
-- SPDX-License-Identifier: Apache-2.0

-- `check::first_misplaced` meets its contract: the columns before k are in their places. Assumes nothing.
use mathlib.Core.Path.{◌≡◌}
use Rattle.lent.proofs.Firsts.{none_start, stops_here, goes_on, stops_last}
use Rattle.matrix_row.specs.Walks.{bad_place}
use Rattle.matrix_row.proofs.PlaceLaws.{placed_start, place_is, placed_next}
use Rattle.csr.proofs.check.first_misplaced.Goals as goal
use Rattle.csr.proofs.check.first_misplaced.Goals.{After-is_misplaced}

tested : (c : After-is_misplaced) → c.is_misplaced.result ≡ bad_place c.args.rows c.args.columns.now c.loop-k.k
tested c =
    let a = c.args in
    let l = c.loop-k in
    place_is a.rows a.columns.now l.least l.k _ l.invariant.0 c.wide-column.ensures c.is_misplaced.ensures

pub loop-k-init : goal.loop-k-init
loop-k-init c = (placed_start c.args.rows c.args.columns.now, none_start _)

pub returns-then-is_misplaced : goal.returns-then-is_misplaced
returns-then-is_misplaced c =
    stops_here _ _ _ c.loop-k-test.true c.loop-k.invariant.1 (tested (goal.at.returns-then-is_misplaced c).After-is_misplaced) c.if-is_misplaced.true

pub loop-k-preserved : goal.loop-k-preserved
loop-k-preserved c =
    let l = c.loop-k in (
      placed_next c.args.rows c.args.columns.now l.least l.k _ l.invariant.0 c.wide-column.ensures c.is_misplaced.ensures c.if-is_misplaced.false,
      goes_on _ _ l.invariant.1 (tested (goal.at.loop-k-preserved c).After-is_misplaced) c.if-is_misplaced.false,
    )

pub returns : goal.returns
returns c = stops_last _ _ _ c.loop-k-test.false c.loop-k.invariant.1
