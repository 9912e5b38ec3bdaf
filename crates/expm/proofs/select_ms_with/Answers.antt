-- SPDX-FileCopyrightText: 2026 The PPVM Authors
-- SPDX-License-Identifier: Apache-2.0

-- `select_ms_with` meets its contract: before each row, the best so far beside the rows that are left. Assumes nothing.
use borrow.Author.Tests.{not-true, not-false}
use Rattle.expm.proofs.SelectLaws.{select_none, select_start, select_more, select_done}
use Rattle.expm.proofs.select_ms_with.Goals as goal

pub returns-then-not-positive : goal.returns-then-not-positive
returns-then-not-positive c = select_none c.args.t c.args.thresholds.now (not-true _ c.if-not-positive.true-raw)

pub loop-i-init : goal.loop-i-init
loop-i-init c =
    select_start c.args.t c.args.thresholds.now c.requires.0 (not-false _ c.if-not-positive.false-raw) _ c.steps.ensures

pub loop-i-preserved : goal.loop-i-preserved
loop-i-preserved c =
    let l = c.loop-i in
    select_more c.args.t c.args.thresholds.now l.best l.i _ l.invariant c.loop-i-test.true c.steps-s.ensures _ c.better_of-best.ensures

pub returns : goal.returns
returns c =
    let l = c.loop-i in
    select_done c.args.t c.args.thresholds.now l.best l.i l.invariant c.loop-i-test.false
