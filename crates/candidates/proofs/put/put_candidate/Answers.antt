-- SPDX-FileCopyrightText: 2026 The PPVM Authors
-- SPDX-License-Identifier: Apache-2.0

-- `put::put_candidate` meets its contract. Assumes nothing.
use mathlib.Core.Path.{sym}
use Prim.Native.Nat.{◌*◌, ◌-◌, ◌<◌}
use native.Mathlib.Omega.{arith}
use lib.Seq.{length-take-le}
use Rattle.word.specs.Flat.{word_lanes}
use Rattle.candidates.proofs.StandLaws.{front_slots, place_low, put_added, put_no_place, put_new_row}
use Rattle.candidates.proofs.put.put_candidate.Goals as goal
use Rattle.candidates.proofs.put.put_candidate.Goals.{Then-at-gt0}

-- the place of the word is one of the rows
low : (c : Then-at-gt0) → c.last_place-at.result - 1 < c.args.n
low c =
    let s = c.before.before.before.before.before.before in
    let a = c.args in
    place_low a.room a.n a.words.now a.sums.now a.heads.now a.nexts.now c.requires a.w a.v c.last_place-at.result c.last_place-at.ensures c.if-at-gt0.true

pub slice_bounds-last_place-end-2 : goal.slice_bounds-last_place-end-2
slice_bounds-last_place-end-2 c = sym (length-take-le (c.args.n * word_lanes) c.args.words.now (omega (arith, c.requires.lanes_long, c.requires.inside)))

pub slice_bounds-last_place-end-4 : goal.slice_bounds-last_place-end-4
slice_bounds-last_place-end-4 c = sym (length-take-le c.args.n c.args.nexts.now (omega (arith, c.requires.nexts_long, c.requires.inside)))

pub last_place-at-requires : goal.last_place-at-requires
last_place-at-requires c = front_slots c.args.n c.args.words.now c.args.heads.now _ c.requires.slots

pub offset_bounds-sums-q : goal.offset_bounds-sums-q
offset_bounds-sums-q c = omega (arith, low (goal.at.offset_bounds-sums-q c).Then-at-gt0, c.requires.inside, c.requires.sums_long)

pub bounds-sums-q : goal.bounds-sums-q
bounds-sums-q c = omega (arith, low (goal.at.bounds-sums-q c).Then-at-gt0, c.requires.inside, c.requires.sums_long)

pub offset_bounds-sums-q-then-at-gt0 : goal.offset_bounds-sums-q-then-at-gt0
offset_bounds-sums-q-then-at-gt0 c = omega (arith, low (goal.at.offset_bounds-sums-q-then-at-gt0 c).Then-at-gt0, c.requires.inside, c.requires.sums_long)

pub bounds-sums-q-then-at-gt0 : goal.bounds-sums-q-then-at-gt0
bounds-sums-q-then-at-gt0 c = omega (arith, low (goal.at.bounds-sums-q-then-at-gt0 c).Then-at-gt0, c.requires.inside, c.requires.sums_long)

pub returns-then-at-gt0 : goal.returns-then-at-gt0
returns-then-at-gt0 c =
    let a = c.args in
    put_added a.room a.n a.words.now a.sums.now a.heads.now a.nexts.now c.requires a.w a.v c.last_place-at.result c.last_place-at.ensures c.if-at-gt0.true

pub returns-then-room-n : goal.returns-then-room-n
returns-then-room-n c =
    let a = c.args in
    put_no_place a.room a.n a.words.now a.sums.now a.heads.now a.nexts.now c.requires a.w a.v c.last_place-at.result c.last_place-at.ensures c.if-at-gt0.false c.if-room-n.true

pub returns : goal.returns
returns c =
    let a = c.args in
    put_new_row a.room a.n a.words.now a.sums.now a.heads.now a.nexts.now c.requires a.w a.v c.last_place-at.result c.last_place-at.ensures c.if-at-gt0.false c.if-room-n.false _ _ _ _ c.lay_row.ensures c.add_slot.ensures c.lay_row.auto.out c.add_slot.auto.heads c.add_slot.auto.nexts
