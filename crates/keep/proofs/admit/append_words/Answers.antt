-- SPDX-FileCopyrightText: 2026 The PPVM Authors
-- SPDX-License-Identifier: Apache-2.0

-- `admit::append_words` meets its contract: after each turn the words picked so far are appended. Assumes nothing.
use mathlib.Core.Path.{◌≡◌, ap, ◌∙◌}
use Prim.Native.Nat.{ℕ, ◌+◌}
use lib.ListN.{get_or, take}
use borrow.Author.Rules.{rules}
use borrow.Author.Tests.{eq-eqb, ne_eqb}
use native.Mathlib.Omega.{arith}
use Rattle.keep.specs.Retained.{flagged}
use Rattle.keep.proofs.AdmitLaws.{grown_start, grown_skip, grown_room, grown_put, grown_done}
use Rattle.keep.proofs.admit.append_words.Goals as goal

pub loop-i-init : goal.loop-i-init
loop-i-init c = let a = c.args in grown_start a.len a.list.now a.kept.now a.words.now

pub loop-i-preserved-then-kept-i-eq0 : goal.loop-i-preserved-then-kept-i-eq0
loop-i-preserved-then-kept-i-eq0 c =
    let a = c.args in
    let l = c.loop-i in
    grown_skip a.len a.count a.list.now a.kept.now a.words.now c.requires l.words l.at l.i l.invariant (omega arith) (eq-eqb (get_or a.kept.now l.i 0) 0 c.if-kept-i-eq0.true)

pub set_word-requires : goal.set_word-requires
set_word-requires c =
    let a = c.args in
    let l = c.loop-i in
    grown_room a.len a.count a.list.now a.kept.now a.words.now c.requires l.words l.at l.i l.invariant (omega arith) (ne_eqb (get_or a.kept.now l.i 0) 0 c.if-kept-i-eq0.false)

pub overflow_add-at : goal.overflow_add-at
overflow_add-at c =
    let a = c.args in
    let l = c.loop-i in
    search (grown_room a.len a.count a.list.now a.kept.now a.words.now c.requires l.words l.at l.i l.invariant (omega arith) (ne_eqb (get_or a.kept.now l.i 0) 0 c.if-kept-i-eq0.false), rules)

pub loop-i-preserved : goal.loop-i-preserved
loop-i-preserved c =
    let a = c.args in
    let l = c.loop-i in
    let w = c.set_word in
    grown_put a.len a.count a.list.now a.kept.now a.words.now c.requires l.words l.at l.i l.invariant (omega arith) c.word_at-w.result w.new.table
    (ne_eqb (get_or a.kept.now l.i 0) 0 c.if-kept-i-eq0.false) c.word_at-w.ensures w.ensures w.auto.table

pub returns : goal.returns
returns c =
    let a = c.args in
    let l = c.loop-i in
    let e : l.i ≡ a.count = omega arith in
    (l.invariant.place ∙ ap (λ (j : ℕ). a.len + flagged (take j a.kept.now)) e, grown_done a.len a.count a.list.now a.kept.now a.words.now c.requires l.words l.at l.i l.invariant e)
