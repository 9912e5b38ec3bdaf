-- SPDX-FileCopyrightText: 2026 The PPVM Authors
-- SPDX-License-Identifier: Apache-2.0

-- `compile::most_places` meets its contract: the places so far and those of the jumps that are left are all places. Assumes nothing.
use lib.ListN.{get_or}
use Rattle.model_build.proofs.SizeLaws.{places_turn, places_end, square_few}
use native.Mathlib.Omega.{arith}
use Rattle.model_build.proofs.compile.most_places.Goals as goal

pub loop-count-preserved : goal.loop-count-preserved
loop-count-preserved c =
    let l = c.loop-count in
    let k = c.requires.1 l.count-index in
    (omega (arith, l.invariant.0, k, square_few (get_or c.args.counts.now l.count-index 0) k), omega (arith, l.invariant.1, places_turn c.args.counts.now l.count-index c.loop-count-test.true))

pub returns : goal.returns
returns c =
    let l = c.loop-count in
    omega (arith, l.invariant.1, places_end c.args.counts.now l.count-index c.loop-count-test.false)
