-- SPDX-FileCopyrightText: 2026 The PPVM Authors
-- SPDX-License-Identifier: Apache-2.0

-- `step` meets its contract. The invariant: the cursor as it is now leaves what it left at first. Assumes nothing.
use Prim.Native.Nat.{◌+◌}
use lib.Count.{count_trailing_zeros}
use Rattle.word.proofs.Lowest.{lowest}
use Rattle.index.proofs.Cursors.{step_turn, step_done, step_item}
use native.Mathlib.Omega.{arith}
use Rattle.index.proofs.step.Goals as goal

pub returns-then-row-lane : goal.returns-then-row-lane
returns-then-row-lane c = let a = c.args in
    let s = c.loop-m in
    step_done a.row a.mask.now a.c s.lane s.m s.invariant.2 c.loop-m-test.true c.if-row-lane.true

pub loop-m-preserved : goal.loop-m-preserved
loop-m-preserved c = let a = c.args in
    let s = c.loop-m in (
      omega arith,
      (c.shared_slice_known-1.given (s.lane + 1)).fits,
      step_turn a.row a.mask.now a.c s.lane s.m s.invariant.2 c.loop-m-test.true (omega arith),
    )

pub returns : goal.returns
returns c = let a = c.args in
    let s = c.loop-m in
    step_item a.row a.mask.now a.c s.lane s.m s.invariant.2 (count_trailing_zeros 64 s.m) (lowest 64 s.m (omega arith) (omega arith)) (omega arith)
