-- SPDX-FileCopyrightText: 2026 The PPVM Authors
-- SPDX-License-Identifier: Apache-2.0

-- `algebra::add_lane` meets its contract: one lane added in the two planes. Assumes nothing.
use borrow.Author.Rules.{rules}
use mir.Val.{Fits}
use mir.Syntax.{w64}
use Rattle.word.specs.Steps.{plane_phase}
use Rattle.word.proofs.Planes.{lane_added}
use Rattle.word.proofs.algebra.add_lane.Goals as goal

pub returns : goal.returns
unfolding plane_phase
returns c =
    let a = c.args in
    let f = c.ranges in
    let hl : Fits w64 a.t.low = search rules in
    let hh : Fits w64 a.t.high = search rules in
    lane_added _ _ _ _ _ _ hl.fits hh.fits f.a.fits f.b.fits f.c.fits f.d.fits
