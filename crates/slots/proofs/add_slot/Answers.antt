-- SPDX-FileCopyrightText: 2026 The PPVM Authors
-- SPDX-License-Identifier: Apache-2.0

-- `add_slot` meets its contract. Assumes nothing.
use Prim.Native.Nat.{◌<◌}
use native.Mathlib.Omega.{arith}
use borrow.Author.Rules.{rules}
use lib.ListN.{length}
use Rattle.slots.proofs.HashLaws.{slot_below}
use Rattle.slots.proofs.SlotLaws.{slot_added}
use Rattle.slots.proofs.add_slot.Goals as goal
use Rattle.slots.proofs.add_slot.Goals.{After-slot_of-s}

-- the slot is one of them
slot_low : (c : After-slot_of-s) → c.slot_of-s.result < length c.args.heads.now
slot_low c =
    let s = c.before.before.before in
    let h = slot_below (length c.args.heads.now) c.args.w (omega (arith, c.requires.0)) in
    omega (arith, h, c.slot_of-s.ensures)

pub offset_bounds-heads-s : goal.offset_bounds-heads-s
offset_bounds-heads-s c = let h = slot_low (goal.at.offset_bounds-heads-s c).After-slot_of-s in search (h, rules)

pub bounds-heads-s : goal.bounds-heads-s
bounds-heads-s c = slot_low (goal.at.bounds-heads-s c).After-slot_of-s

pub offset_bounds-heads-s-2 : goal.offset_bounds-heads-s-2
offset_bounds-heads-s-2 c = let h = slot_low (goal.at.offset_bounds-heads-s-2 c).After-slot_of-s in search (h, rules)

pub bounds-heads-s-2 : goal.bounds-heads-s-2
bounds-heads-s-2 c = slot_low (goal.at.bounds-heads-s-2 c).After-slot_of-s

pub returns : goal.returns
returns c =
    λ ws long laid. slot_added ws c.args.w c.args.heads.now c.args.nexts.now c.args.n c.slot_of-s.result long c.slot_of-s.ensures (slot_low (goal.at.returns c).After-slot_of-s) c.requires.0 c.requires.1 laid
