-- SPDX-FileCopyrightText: 2026 The PPVM Authors
-- SPDX-License-Identifier: Apache-2.0

-- `terms::stage_terms` meets its contract: after each turn the entries laid and those left to lay are the whole. Assumes nothing.
use mathlib.Core.Path.{sym, ◌∙◌}
use Prim.Native.Nat.{◌<◌}
use lib.ListN.{length}
use Rattle.word.specs.Flat.{words}
use Rattle.model.specs.Between.{onto}
use Rattle.columns.proofs.TermLaws.{term_passes, term_skips, term_full, term_place, term_lays, term_done, place_low}
use borrow.Author.Rules.{rules}
use Rattle.columns.proofs.terms.stage_terms.Goals as goal
use Rattle.columns.proofs.terms.stage_terms.Goals.{Else-end-room}

-- a place for one more entry
place : (c : Else-end-room) → (c.loop-i.end < length c.loop-i.rows) × (c.loop-i.end < length c.loop-i.columns) × (c.loop-i.end < length c.loop-i.values)
place c =
    let a = c.args in
    let l = c.loop-i in
    term_place (words a.basis.now) a.column a.touched a.sum_words.now a.sums.now a.rows.now a.columns.now a.values.now a.room a.count c.requires.0 c.requires.1 c.requires.5 l.rows l.columns l.values l.end l.i l.invariant c.loop-i-test.true (onto c.term_at-t.result) c.term_at-t.ensures (sym c.is_zero.ensures ∙ c.if-is_zero.false) c.last_place-place.result c.last_place-place.ensures c.if-place-eq0.false c.if-end-room.false

pub loop-i-preserved-then-is_zero : goal.loop-i-preserved-then-is_zero
loop-i-preserved-then-is_zero c =
    let a = c.args in
    let l = c.loop-i in
    term_passes (words a.basis.now) a.column a.touched a.sum_words.now a.sums.now a.rows.now a.columns.now a.values.now a.room a.count c.requires.0 c.requires.1 c.requires.5 l.rows l.columns l.values l.end l.i l.invariant c.loop-i-test.true (onto c.term_at-t.result) c.term_at-t.ensures (sym c.is_zero.ensures ∙ c.if-is_zero.true)

pub loop-i-preserved-then-place-eq0 : goal.loop-i-preserved-then-place-eq0
loop-i-preserved-then-place-eq0 c =
    let a = c.args in
    let l = c.loop-i in
    term_skips (words a.basis.now) a.column a.touched a.sum_words.now a.sums.now a.rows.now a.columns.now a.values.now a.room a.count c.requires.0 c.requires.1 c.requires.5 l.rows l.columns l.values l.end l.i l.invariant c.loop-i-test.true (onto c.term_at-t.result) c.term_at-t.ensures (sym c.is_zero.ensures ∙ c.if-is_zero.false) c.last_place-place.result c.last_place-place.ensures c.if-place-eq0.true

pub returns-then-end-room : goal.returns-then-end-room
returns-then-end-room c =
    let a = c.args in
    let l = c.loop-i in
    term_full (words a.basis.now) a.column a.touched a.sum_words.now a.sums.now a.rows.now a.columns.now a.values.now a.room a.count c.requires.0 c.requires.1 c.requires.5 l.rows l.columns l.values l.end l.i l.invariant c.loop-i-test.true (onto c.term_at-t.result) c.term_at-t.ensures (sym c.is_zero.ensures ∙ c.if-is_zero.false) c.last_place-place.result c.last_place-place.ensures c.if-place-eq0.false c.if-end-room.true

-- rows and columns are numbers of 32 bits
pub overflow_cast-rows : goal.overflow_cast-rows
overflow_cast-rows c = let h = place_low (words c.args.basis.now) _ c.last_place-place.ensures in search (h, c.requires.3, c.requires.4, rules)

pub loop-i-preserved : goal.loop-i-preserved
loop-i-preserved c =
    let a = c.args in
    let l = c.loop-i in
    term_lays (words a.basis.now) a.column a.touched a.sum_words.now a.sums.now a.rows.now a.columns.now a.values.now a.room a.count c.requires.0 c.requires.1 c.requires.5 l.rows l.columns l.values l.end l.i l.invariant c.loop-i-test.true (onto c.term_at-t.result) c.term_at-t.ensures (sym c.is_zero.ensures ∙ c.if-is_zero.false) c.last_place-place.result c.last_place-place.ensures c.if-place-eq0.false c.if-end-room.false

pub returns : goal.returns
returns c =
    let a = c.args in
    let l = c.loop-i in
    term_done (words a.basis.now) a.column a.touched a.sum_words.now a.sums.now a.rows.now a.columns.now a.values.now a.room a.count c.requires.0 c.requires.1 c.requires.5 l.rows l.columns l.values l.end l.i l.invariant c.loop-i-test.false
