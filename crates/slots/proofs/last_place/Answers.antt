-- SPDX-FileCopyrightText: 2026 The PPVM Authors
-- SPDX-License-Identifier: Apache-2.0

-- `last_place` meets its contract: w stands last at `at` or before, and `at` falls along the chain. Assumes nothing.
use mathlib.Core.Path.{sym, ◌∙◌}
use native.Mathlib.Omega.{arith}
use borrow.Author.Rules.{rules}
use lib.ListN.{length}
use Rattle.word.specs.Flat.{words}
use Rattle.word.proofs.FlatLaws.{words_low}
use Rattle.slots.proofs.HashLaws.{slot_below}
use Rattle.slots.proofs.SlotLaws.{follow_start, follow_found, follow_falls, follow_on, follow_end, no_slots}
use Rattle.slots.proofs.last_place.Goals as goal

pub returns-then-slots-eq0 : goal.returns-then-slots-eq0
returns-then-slots-eq0 c =
    no_slots c.args.w (words c.args.lanes.now) c.args.heads.now c.args.nexts.now c.requires c.if-slots-eq0.true

pub offset_bounds-heads-s : goal.offset_bounds-heads-s
offset_bounds-heads-s c =
    let h = slot_below (length c.args.heads.now) c.args.w (omega (arith, c.if-slots-eq0.false)) in
    search (c.slot_of-s.ensures, h, rules)

pub bounds-heads-s : goal.bounds-heads-s
bounds-heads-s c =
    let h = slot_below (length c.args.heads.now) c.args.w (omega (arith, c.if-slots-eq0.false)) in
    omega (arith, c.slot_of-s.ensures, h)

pub loop-at-init : goal.loop-at-init
loop-at-init c =
    let h = slot_below (length c.args.heads.now) c.args.w (omega (arith, c.if-slots-eq0.false)) in
    follow_start c.args.w (words c.args.lanes.now) c.args.heads.now c.args.nexts.now c.requires c.slot_of-s.result c.slot_of-s.ensures (omega (arith, c.slot_of-s.ensures, h))

pub word_at-v-requires : goal.word_at-v-requires
word_at-v-requires c =
    omega (arith, c.loop-at-test.true, c.loop-at.invariant.low, words_low c.args.lanes.now)

pub returns-then-same_word : goal.returns-then-same_word
returns-then-same_word c =
    let l = c.loop-at in
    follow_found c.args.w (words c.args.lanes.now) c.args.heads.now c.args.nexts.now c.requires l.at (omega (arith, c.loop-at-test.true)) l.invariant c.word_at-v.result c.word_at-v.ensures (sym c.same_word.ensures ∙ c.if-same_word.true)

pub offset_bounds-nexts-at : goal.offset_bounds-nexts-at
offset_bounds-nexts-at c =
    let l = c.loop-at in
    search (l.invariant.low, c.requires.each, rules)

pub bounds-nexts-at : goal.bounds-nexts-at
bounds-nexts-at c =
    let l = c.loop-at in
    omega (arith, c.loop-at-test.true, l.invariant.low, c.requires.each)

pub loop-at-smaller : goal.loop-at-smaller
loop-at-smaller c =
    let l = c.loop-at in
    follow_falls c.args.w (words c.args.lanes.now) c.args.heads.now c.args.nexts.now c.requires l.at (omega (arith, c.loop-at-test.true)) l.invariant c.word_at-v.result c.word_at-v.ensures

pub loop-at-preserved : goal.loop-at-preserved
loop-at-preserved c =
    let l = c.loop-at in
    follow_on c.args.w (words c.args.lanes.now) c.args.heads.now c.args.nexts.now c.requires l.at (omega (arith, c.loop-at-test.true)) l.invariant c.word_at-v.result c.word_at-v.ensures (sym c.same_word.ensures ∙ c.if-same_word.false)

pub returns : goal.returns
returns c =
    follow_end c.args.w (words c.args.lanes.now) c.args.heads.now c.args.nexts.now c.requires c.loop-at.at (omega (arith, c.loop-at-test.false)) c.loop-at.invariant
