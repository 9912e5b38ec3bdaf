-- SPDX-FileCopyrightText: 2026 The PPVM Authors
-- SPDX-License-Identifier: Apache-2.0

-- `has_word_in_both` meets its contract: w stands last at `at` or before, and `at` falls along the chain. Assumes nothing.
use mathlib.Core.Path.{ap, sym, ◌∙◌}
use mathlib.Core.Bool.{not}
use mathlib.Core.List.{◌++◌}
use Prim.Native.Nat.{ℕ}
use native.Mathlib.Omega.{arith}
use borrow.Author.Rules.{rules}
use borrow.Author.Tests.{ne_eqb}
use lib.Dec.{eqb}
use lib.ListN.{length, length-append}
use Rattle.word.specs.Flat.{words}
use Rattle.slots.proofs.HashLaws.{slot_below}
use Rattle.slots.proofs.SlotLaws.{follow_start, follow_found, follow_falls, follow_on, follow_end, no_slots, holds}
use Rattle.slots.proofs.has_word_in_both.Goals as goal

pub returns-then-slots-eq0 : goal.returns-then-slots-eq0
returns-then-slots-eq0 c =
    ap (λ (k : ℕ). not (eqb k 0)) (no_slots c.args.w (words c.args.first.now ++ words c.args.second.now) c.args.heads.now c.args.nexts.now c.requires c.if-slots-eq0.true) ∙ holds c.args.w (words c.args.first.now ++ words c.args.second.now)

pub offset_bounds-heads-s : goal.offset_bounds-heads-s
offset_bounds-heads-s c =
    let h = slot_below (length c.args.heads.now) c.args.w (omega (arith, c.if-slots-eq0.false)) in
    search (c.slot_of-s.ensures, h, rules)

pub bounds-heads-s : goal.bounds-heads-s
bounds-heads-s c =
    let h = slot_below (length c.args.heads.now) c.args.w (omega (arith, c.if-slots-eq0.false)) in
    omega (arith, c.slot_of-s.ensures, h)

pub loop-at-init : goal.loop-at-init
loop-at-init c =
    let h = slot_below (length c.args.heads.now) c.args.w (omega (arith, c.if-slots-eq0.false)) in
    follow_start c.args.w (words c.args.first.now ++ words c.args.second.now) c.args.heads.now c.args.nexts.now c.requires c.slot_of-s.result c.slot_of-s.ensures (omega (arith, c.slot_of-s.ensures, h))

pub word_of_both-v-requires : goal.word_of_both-v-requires
word_of_both-v-requires c =
    omega (arith, c.loop-at-test.true, c.loop-at.invariant.low, length-append (words c.args.first.now) (words c.args.second.now))

pub returns-then-same_word : goal.returns-then-same_word
returns-then-same_word c =
    let l = c.loop-at in
    sym (ap not (ne_eqb l.at 0 (λ z. omega (arith, z, c.loop-at-test.true))))
    ∙ ap (λ (k : ℕ). not (eqb k 0)) (follow_found c.args.w (words c.args.first.now ++ words c.args.second.now) c.args.heads.now c.args.nexts.now c.requires l.at (omega (arith, c.loop-at-test.true)) l.invariant c.word_of_both-v.result c.word_of_both-v.ensures (sym c.same_word.ensures ∙ c.if-same_word.true))
    ∙ holds c.args.w (words c.args.first.now ++ words c.args.second.now)

pub offset_bounds-nexts-at : goal.offset_bounds-nexts-at
offset_bounds-nexts-at c =
    let l = c.loop-at in
    search (l.invariant.low, c.requires.each, rules)

pub bounds-nexts-at : goal.bounds-nexts-at
bounds-nexts-at c =
    let l = c.loop-at in
    omega (arith, c.loop-at-test.true, l.invariant.low, c.requires.each)

pub loop-at-smaller : goal.loop-at-smaller
loop-at-smaller c =
    let l = c.loop-at in
    follow_falls c.args.w (words c.args.first.now ++ words c.args.second.now) c.args.heads.now c.args.nexts.now c.requires l.at (omega (arith, c.loop-at-test.true)) l.invariant c.word_of_both-v.result c.word_of_both-v.ensures

pub loop-at-preserved : goal.loop-at-preserved
loop-at-preserved c =
    let l = c.loop-at in
    follow_on c.args.w (words c.args.first.now ++ words c.args.second.now) c.args.heads.now c.args.nexts.now c.requires l.at (omega (arith, c.loop-at-test.true)) l.invariant c.word_of_both-v.result c.word_of_both-v.ensures (sym c.same_word.ensures ∙ c.if-same_word.false)

pub returns : goal.returns
returns c =
    ap (λ (k : ℕ). not (eqb k 0)) (follow_end c.args.w (words c.args.first.now ++ words c.args.second.now) c.args.heads.now c.args.nexts.now c.requires c.loop-at.at (omega (arith, c.loop-at-test.false)) c.loop-at.invariant) ∙ holds c.args.w (words c.args.first.now ++ words c.args.second.now)
