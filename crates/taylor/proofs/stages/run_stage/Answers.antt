-- SPDX-FileCopyrightText: 2026 The PPVM Authors
-- SPDX-License-Identifier: Apache-2.0

-- `stages::run_stage` meets its contract: what is left of the terms gives what all give. Assumes nothing.
use Prim.Native.Nat.{◌+◌, ◌*◌, ◌≤◌}
use native.Mathlib.Nat.{mul-le-mul_left, mul_comm}
use native.Mathlib.Omega.{arith}
use lib.Dec.{le→leb}
use lib.Ieee.{in_float}
use Rattle.taylor.specs.Stages.{factor}
use Rattle.taylor.proofs.StageLaws.{Going, going_start, going_stop, going_more, going_done}
use Rattle.taylor.proofs.stages.run_stage.Goals as goal
use Rattle.taylor.proofs.stages.run_stage.Goals.{In-loop-j, Else-passed-rows}

-- s·j is at most m × s
small : (c : In-loop-j) → c.args.s * c.loop-j.j ≤ 1048576
small c =
    let a = c.args in
    let e = mul-le-mul_left {m = c.loop-j.j} {n = a.m} a.s (omega arith) in
    let f = mul_comm a.s a.m in
    omega (arith, e, f, c.requires.few)

pub loop-j-init : goal.loop-j-init
loop-j-init c =
    let a = c.args in
    going_start a.offsets.now a.columns.now a.values.now a.m a.s a.dt a.v.now a.b.now a.product.now c.copy_numbers.new.to c.requires c.copy_numbers.ensures

pub int_to_float-factor : goal.int_to_float-factor
unfolding in_float
int_to_float-factor c = le→leb (c.args.s * c.loop-j.j) 9007199254740992 (omega (arith, small (goal.at.int_to_float-factor c).In-loop-j))

pub returns-then-passed-rows : goal.returns-then-passed-rows
unfolding factor
returns-then-passed-rows c =
    let a = c.args in
    let l = c.loop-j in
    let q = c.add_term-passed in
    going_stop a.offsets.now a.columns.now a.values.now a.m a.s a.dt a.v.now l.b l.product l.v l.j l.invariant (omega arith) q.result q.new.b q.new.v q.ensures c.if-passed-rows.true

-- one more term
more : (c : Else-passed-rows) → Going c.args.offsets.now c.args.columns.now c.args.values.now c.args.m c.args.s c.args.dt c.args.v.now c.add_term-passed.new.b c.add_term-passed.new.product c.add_term-passed.new.v (c.loop-j.j + 1)
unfolding factor
more c =
    let a = c.args in
    let l = c.loop-j in
    let q = c.add_term-passed in
    going_more a.offsets.now a.columns.now a.values.now a.m a.s a.dt a.v.now l.b l.product l.v l.j l.invariant (omega arith) q.result q.new.b q.new.v q.ensures c.if-passed-rows.false q.new.product q.auto.b q.auto.product q.auto.v

pub loop-j-preserved : goal.loop-j-preserved
loop-j-preserved c = more (goal.at.loop-j-preserved c).Else-passed-rows

pub returns-else-passed-rows : goal.returns-else-passed-rows
returns-else-passed-rows c =
    let a = c.args in
    let q = c.add_term-passed in
    going_done a.offsets.now a.columns.now a.values.now a.m a.s a.dt a.v.now q.new.b q.new.product q.new.v (c.loop-j.j + 1) (more (goal.at.returns-else-passed-rows c).Else-passed-rows) (omega arith)

pub returns : goal.returns
returns c =
    let a = c.args in
    let l = c.loop-j in
    going_done a.offsets.now a.columns.now a.values.now a.m a.s a.dt a.v.now l.b l.product l.v l.j l.invariant (omega arith)
