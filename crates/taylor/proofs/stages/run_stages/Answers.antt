-- SPDX-FileCopyrightText: 2026 The PPVM Authors
-- SPDX-License-Identifier: Apache-2.0

-- `stages::run_stages` meets its contract: what is left of the stages gives what all give. Assumes nothing.
use Rattle.taylor.proofs.StageLaws.{running_stop, running_more, running_done}
use Rattle.taylor.proofs.stages.run_stages.Goals as goal

pub returns-then-passed-rows : goal.returns-then-passed-rows
returns-then-passed-rows c =
    let a = c.args in
    let l = c.loop in
    let q = c.run_stage-passed in
    running_stop a.offsets.now a.columns.now a.values.now a.m a.s a.dt a.v.now l.b l.product l.v l.counter l.invariant c.loop-test.true q.result q.new.v q.ensures c.if-passed-rows.true

pub loop-preserved : goal.loop-preserved
loop-preserved c =
    let a = c.args in
    let l = c.loop in
    let q = c.run_stage-passed in
    running_more a.offsets.now a.columns.now a.values.now a.m a.s a.dt a.v.now l.b l.product l.v l.counter l.invariant c.loop-test.true q.result q.new.v q.ensures c.if-passed-rows.false q.new.b q.new.product q.auto.b q.auto.product q.auto.v

pub returns : goal.returns
returns c =
    let a = c.args in
    let l = c.loop in
    running_done a.offsets.now a.columns.now a.values.now a.m a.s a.dt a.v.now l.b l.product l.v l.counter l.invariant c.loop-test.false
