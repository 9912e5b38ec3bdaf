-- SPDX-FileCopyrightText: 2026 The PPVM Authors
-- SPDX-License-Identifier: Apache-2.0

-- `place_before` meets its contract: of the places before i, the word at i stands last at `at` or before, and `at` falls along
-- the chain. Assumes nothing.
use mathlib.Core.Path.{sym, ap, ◌∙◌}
use native.Mathlib.Omega.{arith}
use Rattle.word.specs.Flat.{words}
use Rattle.word.specs.declared.word.Word.{Word}
use Rattle.word.proofs.FlatLaws.{words_low}
use Rattle.slots.specs.Slots.{last_of}
use Rattle.slots.proofs.SlotLaws.{follow_before, follow_found, follow_falls, follow_on, follow_end}
use borrow.Author.Rules.{rules}
use Rattle.slots.proofs.place_before.Goals as goal

pub word_at-w-requires : goal.word_at-w-requires
word_at-w-requires c = omega (arith, c.requires.1, words_low c.args.lanes.now)

pub offset_bounds-nexts-i : goal.offset_bounds-nexts-i
offset_bounds-nexts-i c = search (c.requires.1, c.requires.0.each, rules)

pub bounds-nexts-i : goal.bounds-nexts-i
bounds-nexts-i c = omega (arith, c.requires.1, c.requires.0.each)

pub loop-at-init : goal.loop-at-init
loop-at-init c = follow_before c.word_at-w.result (words c.args.lanes.now) c.args.heads.now c.args.nexts.now c.requires.0 c.args.i c.requires.1 c.word_at-w.ensures

pub word_at-v-requires : goal.word_at-v-requires
word_at-v-requires c = omega (arith, c.loop-at-test.true, c.loop-at.invariant.low, words_low c.args.lanes.now)

pub returns-then-same_word : goal.returns-then-same_word
returns-then-same_word c =
    let l = c.loop-at in
    follow_found c.word_at-w.result (words c.args.lanes.now) c.args.heads.now c.args.nexts.now c.requires.0 l.at (omega (arith, c.loop-at-test.true)) l.invariant c.word_at-v.result c.word_at-v.ensures (sym c.same_word.ensures ∙ c.if-same_word.true)
    ∙ ap (λ (v : Word). last_of v (words c.args.lanes.now) c.args.i) c.word_at-w.ensures

pub offset_bounds-nexts-at : goal.offset_bounds-nexts-at
offset_bounds-nexts-at c = search (c.loop-at.invariant.low, c.requires.0.each, rules)

pub bounds-nexts-at : goal.bounds-nexts-at
bounds-nexts-at c = omega (arith, c.loop-at-test.true, c.loop-at.invariant.low, c.requires.0.each)

pub loop-at-smaller : goal.loop-at-smaller
loop-at-smaller c =
    let l = c.loop-at in
    follow_falls c.word_at-w.result (words c.args.lanes.now) c.args.heads.now c.args.nexts.now c.requires.0 l.at (omega (arith, c.loop-at-test.true)) l.invariant c.word_at-v.result c.word_at-v.ensures

pub loop-at-preserved : goal.loop-at-preserved
loop-at-preserved c =
    let l = c.loop-at in
    follow_on c.word_at-w.result (words c.args.lanes.now) c.args.heads.now c.args.nexts.now c.requires.0 l.at (omega (arith, c.loop-at-test.true)) l.invariant c.word_at-v.result c.word_at-v.ensures (sym c.same_word.ensures ∙ c.if-same_word.false)

pub returns : goal.returns
returns c =
    follow_end c.word_at-w.result (words c.args.lanes.now) c.args.heads.now c.args.nexts.now c.requires.0 c.loop-at.at (omega (arith, c.loop-at-test.false)) c.loop-at.invariant
    ∙ ap (λ (v : Word). last_of v (words c.args.lanes.now) c.args.i) c.word_at-w.ensures
