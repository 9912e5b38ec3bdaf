-- SPDX-FileCopyrightText: 2026 The PPVM Authors
-- SPDX-License-Identifier: Apache-2.0

-- `raw_at` meets its contract: the sum so far, beside what is left of the column. Assumes nothing.
use native.Mathlib.Omega.{arith}
use Rattle.raw_norm.proofs.FrontLaws.{summing_stop, summing_more, summing_end}
use Rattle.raw_norm.proofs.raw_at.Goals as goal

pub returns-then-column-c : goal.returns-then-column-c
returns-then-column-c c =
    let l = c.loop-k in
    summing_stop c.args.columns.now c.args.values.now c.args.start c.args.c c.requires.0 l.raw l.k l.invariant c.loop-k-test.true _ c.wide-column.ensures c.if-column-c.true

pub loop-k-preserved : goal.loop-k-preserved
loop-k-preserved c =
    let l = c.loop-k in
    summing_more c.args.columns.now c.args.values.now c.args.start c.args.c c.requires.0 l.raw l.k l.invariant c.loop-k-test.true _ c.wide-column.ensures c.if-column-c.false _ c.magnitude-raw.ensures

pub returns : goal.returns
returns c =
    let l = c.loop-k in
    summing_end c.args.columns.now c.args.values.now c.args.start c.args.c c.requires.0 l.raw l.k l.invariant (omega arith)
