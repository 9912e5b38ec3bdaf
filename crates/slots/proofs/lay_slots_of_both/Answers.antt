-- SPDX-FileCopyrightText: 2026 The PPVM Authors
-- SPDX-License-Identifier: Apache-2.0

-- `lay_slots_of_both` meets its contract: after k turns the chains of the first k places are laid. Assumes nothing.
use mathlib.Core.Path.{◌≡◌, ap, sym, ◌∙◌}
use mathlib.Core.List.{◌++◌}
use Prim.Native.Nat.{◌<◌}
use native.Mathlib.Omega.{arith}
use borrow.Author.Rules.{rules}
use lib.ListN.{length, length-append}
use Rattle.word.specs.Flat.{words}
use Rattle.slots.specs.Between.{slot_of}
use Rattle.slots.proofs.HashLaws.{slot_below}
use Rattle.slots.proofs.SlotLaws.{lay_start, lay_more}
use Rattle.slots.proofs.lay_slots_of_both.Goals as goal
use Rattle.slots.proofs.lay_slots_of_both.Goals.{After-slot_of-s, At-loop-k}

-- the slot is one of them
slot_low : (c : After-slot_of-s) → (c.slot_of-s.result < length c.loop-k.heads) × (c.slot_of-s.result < length c.clear_lanes.new.t)
slot_low c =
    let h = slot_below (length c.clear_lanes.new.t) c.word_of_both-w.result (omega (arith, c.requires.1, c.clear_lanes.auto.t)) in
    (omega (arith, h, c.slot_of-s.ensures), omega (arith, h, c.slot_of-s.ensures))

-- a place of nexts for each word
each_place : (c : At-loop-k) → length c.args.nexts.now ≡ length (words c.args.first.now ++ words c.args.second.now)
each_place c =
    c.requires.0 ∙ sym (length-append (words c.args.first.now) (words c.args.second.now))

pub loop-k-init : goal.loop-k-init
loop-k-init c =
    lay_start (words c.args.first.now ++ words c.args.second.now) c.clear_lanes.new.t c.args.nexts.now (length c.args.heads.now) c.clear_lanes.ensures

pub offset_bounds-heads-s : goal.offset_bounds-heads-s
offset_bounds-heads-s c = let h = slot_low (goal.at.offset_bounds-heads-s c).After-slot_of-s in search (h.0, rules)

pub bounds-heads-s : goal.bounds-heads-s
bounds-heads-s c = (slot_low (goal.at.bounds-heads-s c).After-slot_of-s).0

pub offset_bounds-heads-s-in-loop-k : goal.offset_bounds-heads-s-in-loop-k
offset_bounds-heads-s-in-loop-k c = let h = slot_low (goal.at.offset_bounds-heads-s-in-loop-k c).After-slot_of-s in search (h.0, rules)

pub bounds-heads-s-in-loop-k : goal.bounds-heads-s-in-loop-k
bounds-heads-s-in-loop-k c = (slot_low (goal.at.bounds-heads-s-in-loop-k c).After-slot_of-s).0

pub loop-k-preserved : goal.loop-k-preserved
loop-k-preserved c =
    let l = c.loop-k in
    let e = each_place (goal.at.loop-k-preserved c).At-loop-k in
    lay_more (words c.args.first.now ++ words c.args.second.now) c.clear_lanes.new.t c.args.nexts.now l.heads l.nexts l.k l.auto.heads l.auto.nexts l.invariant c.slot_of-s.result (c.slot_of-s.ensures ∙ ap (slot_of _) c.word_of_both-w.ensures) (slot_low (goal.at.loop-k-preserved c).After-slot_of-s).1 (omega (arith, e)) e
