-- SPDX-FileCopyrightText: 2026 The PPVM Authors
-- SPDX-License-Identifier: Apache-2.0

-- `norms::mean` meets its contract: before each diagonal, the sum so far beside what is left. Assumes nothing.
use Rattle.column_norm.proofs.NormLaws.{sum_adds, mean_none, mean_done}
use Rattle.column_norm.proofs.norms.mean.Goals as goal

pub returns-then-len-eq0 : goal.returns-then-len-eq0
returns-then-len-eq0 c = mean_none c.args.len c.args.diags.now c.if-len-eq0.true

pub loop-i-preserved : goal.loop-i-preserved
loop-i-preserved c =
    let l = c.loop-i in
    sum_adds c.args.len c.args.diags.now c.requires.0 l.sum l.i l.invariant c.loop-i-test.true

pub returns : goal.returns
returns c =
    let l = c.loop-i in
    mean_done c.args.len c.args.diags.now c.requires.0 l.sum l.i l.invariant c.loop-i-test.false c.if-len-eq0.false
