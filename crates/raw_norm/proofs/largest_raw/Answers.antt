-- SPDX-FileCopyrightText: 2026 The PPVM Authors
-- SPDX-License-Identifier: Apache-2.0

-- `largest_raw` meets its contract: the largest so far, beside the columns that are left. Assumes nothing.
use Rattle.raw_norm.proofs.FrontLaws.{ranking_more, ranking_done}
use Rattle.raw_norm.proofs.largest_raw.Goals as goal

pub loop-c-preserved : goal.loop-c-preserved
loop-c-preserved c =
    let l = c.loop-c in
    ranking_more c.args.columns.now c.args.values.now c.args.n l.norm l.k l.c l.invariant c.loop-c-test.true c.raw_at-found.result c.raw_at-found.ensures _ c.larger-norm.ensures

pub returns : goal.returns
returns c =
    let l = c.loop-c in
    ranking_done c.args.columns.now c.args.values.now c.args.n l.norm l.k l.c l.invariant c.loop-c-test.false
