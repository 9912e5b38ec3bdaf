-- SPDX-FileCopyrightText: 2026 The PPVM Authors
-- SPDX-License-Identifier: Apache-2.0

-- `repeat::search_slots` meets its contract: no word before i comes again. Assumes nothing.
use mathlib.Core.Path.{ap}
use mathlib.Core.Bool.{not}
use native.Mathlib.Omega.{arith}
use borrow.Author.Tests.{eq-eqb, ne_eqb}
use Rattle.word.specs.Flat.{words}
use Rattle.lent.proofs.Firsts.{stops_here, goes_on, stops_last}
use Rattle.columns.specs.Repeats.{repeats_at}
use Rattle.columns.proofs.RepeatLaws.{slots_repeat, first_is}
use Rattle.columns.proofs.repeat.search_slots.Goals as goal

pub returns-then-place-ne0 : goal.returns-then-place-ne0
returns-then-place-ne0 c =
    let ws = words c.args.lanes.now in
    first_is ws _ c.requires.each
    (stops_here _ (repeats_at ws) c.loop-i.i c.loop-i-test.true c.loop-i.invariant (slots_repeat ws c.loop-i.i (omega (arith, c.requires.each, c.loop-i-test.true)) c.place_before-place.ensures) (ap not (ne_eqb _ _ c.if-place-ne0.true)))

pub loop-i-preserved : goal.loop-i-preserved
loop-i-preserved c =
    let ws = words c.args.lanes.now in
    goes_on (repeats_at ws) c.loop-i.i c.loop-i.invariant (slots_repeat ws c.loop-i.i (omega (arith, c.requires.each, c.loop-i-test.true)) c.place_before-place.ensures) (ap not (eq-eqb _ _ c.if-place-ne0.false))

pub returns : goal.returns
returns c =
    let ws = words c.args.lanes.now in
    first_is ws _ c.requires.each (stops_last _ (repeats_at ws) c.loop-i.i c.loop-i-test.false c.loop-i.invariant)
