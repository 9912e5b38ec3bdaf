-- SPDX-FileCopyrightText: 2026 The PPVM Authors
-- SPDX-License-Identifier: Apache-2.0

-- `items::sum_of` meets its contract: the sum so far and the total of what is left are the whole total. Assumes nothing.
use Rattle.model_build.proofs.Parts.{total_turn, total_end}
use native.Mathlib.Omega.{arith}
use Rattle.model_build.proofs.items.sum_of.Goals as goal

pub overflow_add-sum : goal.overflow_add-sum
overflow_add-sum c =
    let l = c.loop-length in
    omega (arith, total_turn c.args.lengths.now l.length-index c.loop-length-test.true)

pub loop-length-preserved : goal.loop-length-preserved
loop-length-preserved c =
    let l = c.loop-length in
    omega (arith, total_turn c.args.lengths.now l.length-index c.loop-length-test.true)

pub returns : goal.returns
returns c =
    let l = c.loop-length in
    omega (arith, total_end c.args.lengths.now l.length-index c.loop-length-test.false)
