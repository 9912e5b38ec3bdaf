-- SPDX-FileCopyrightText: 2026 The PPVM Authors
-- SPDX-License-Identifier: Apache-2.0

-- `lay_slots` meets its contract: after i turns the chains of the first i places are laid. Assumes nothing.
use mathlib.Core.Path.{◌≡◌, ap, ◌∙◌}
use Prim.Native.Nat.{◌<◌}
use native.Mathlib.Omega.{arith}
use borrow.Author.Rules.{rules}
use lib.ListN.{length}
use Rattle.word.specs.Flat.{words}
use Rattle.word.proofs.FlatLaws.{words_low, words_high}
use Rattle.slots.specs.Between.{slot_of}
use Rattle.slots.proofs.HashLaws.{slot_below}
use Rattle.slots.proofs.SlotLaws.{lay_start, lay_more, lay_done}
use Rattle.slots.proofs.lay_slots.Goals as goal
use Rattle.slots.proofs.lay_slots.Goals.{After-slot_of-s, At-loop-i}

-- the slot is one of them
slot_low : (c : After-slot_of-s) → (c.slot_of-s.result < length c.loop-i.heads) × (c.slot_of-s.result < length c.clear_lanes.new.t)
slot_low c =
    let h = slot_below (length c.clear_lanes.new.t) c.word_at-w.result (omega (arith, c.requires.1, c.clear_lanes.auto.t)) in
    (omega (arith, h, c.slot_of-s.ensures), omega (arith, h, c.slot_of-s.ensures))

-- a place of nexts for each word
each_place : (c : At-loop-i) → length c.args.nexts.now ≡ length (words c.args.lanes.now)
each_place c =
    omega (arith, c.requires.0, words_low c.args.lanes.now, words_high c.args.lanes.now)

pub loop-i-init : goal.loop-i-init
loop-i-init c =
    lay_start (words c.args.lanes.now) c.clear_lanes.new.t c.args.nexts.now (length c.args.heads.now) c.clear_lanes.ensures

pub offset_bounds-heads-s : goal.offset_bounds-heads-s
offset_bounds-heads-s c = let h = slot_low (goal.at.offset_bounds-heads-s c).After-slot_of-s in search (h.0, rules)

pub bounds-heads-s : goal.bounds-heads-s
bounds-heads-s c = (slot_low (goal.at.bounds-heads-s c).After-slot_of-s).0

pub offset_bounds-heads-s-in-loop-i : goal.offset_bounds-heads-s-in-loop-i
offset_bounds-heads-s-in-loop-i c = let h = slot_low (goal.at.offset_bounds-heads-s-in-loop-i c).After-slot_of-s in search (h.0, rules)

pub bounds-heads-s-in-loop-i : goal.bounds-heads-s-in-loop-i
bounds-heads-s-in-loop-i c = (slot_low (goal.at.bounds-heads-s-in-loop-i c).After-slot_of-s).0

pub loop-i-preserved : goal.loop-i-preserved
loop-i-preserved c =
    let l = c.loop-i in
    let e = each_place (goal.at.loop-i-preserved c).At-loop-i in
    lay_more (words c.args.lanes.now) c.clear_lanes.new.t c.args.nexts.now l.heads l.nexts l.i l.auto.heads l.auto.nexts l.invariant c.slot_of-s.result (c.slot_of-s.ensures ∙ ap (slot_of _) c.word_at-w.ensures) (slot_low (goal.at.loop-i-preserved c).After-slot_of-s).1 (omega (arith, e)) e

pub returns : goal.returns
returns c =
    let l = c.loop-i in
    let e = each_place (goal.at.returns c).At-loop-i in
    lay_done (words c.args.lanes.now) c.clear_lanes.new.t c.args.nexts.now l.heads l.nexts l.i l.auto.heads l.auto.nexts l.invariant (omega (arith, e)) e (omega (arith, e, c.requires.1))
