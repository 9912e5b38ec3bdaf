-- SPDX-FileCopyrightText: 2026 The PPVM Authors
-- SPDX-License-Identifier: Apache-2.0

-- `scaled::store_scaled` meets its contract: after each turn K × the sums left so far is laid. Assumes nothing.
use mathlib.Core.Path.{sym, ap, ◌∙◌}
use lib.ListN.{length}
use mir.Val.{Fits}
use mir.Syntax.{w64}
use Rattle.number.specs.Floats.{floats, cx}
use Rattle.model.specs.Between.{onto}
use Rattle.k_matrix.proofs.ScaledLaws.{scaled_lays, scaled_start, scaled_drops, scaled_room, scaled_keeps, scaled_done}
use borrow.Author.Rules.{rules}
use native.Mathlib.Omega.{arith}
use Rattle.k_matrix.proofs.scaled.store_scaled.Goals as goal

pub loop-i-init : goal.loop-i-init
loop-i-init c = let a = c.args in scaled_start (cx a.k) a.len a.at a.words.now a.numbers.now a.t_words.now a.t_numbers.now c.requires

pub loop-i-preserved-then-negligible : goal.loop-i-preserved-then-negligible
loop-i-preserved-then-negligible c =
    let a = c.args in
    let l = c.loop-i in
    scaled_drops (cx a.k) a.len a.at a.words.now a.numbers.now a.t_words.now a.t_numbers.now c.requires l.t_words l.t_numbers l.place l.i l.invariant c.loop-i-test.true
    (onto c.term_at-t.result) c.term_at-t.ensures (ap floats.small (sym c.norm_sqr.ensures) ∙ sym c.negligible.ensures ∙ c.if-negligible.true)

pub set_word-requires : goal.set_word-requires
set_word-requires c =
    let a = c.args in
    let l = c.loop-i in
    (scaled_room (cx a.k) a.len a.at a.words.now a.numbers.now a.t_words.now a.t_numbers.now c.requires l.t_words l.t_numbers l.place l.i l.invariant c.loop-i-test.true
    (onto c.term_at-t.result) c.term_at-t.ensures (ap floats.small (sym c.norm_sqr.ensures) ∙ sym c.negligible.ensures ∙ c.if-negligible.false)).0

pub set_complex-requires : goal.set_complex-requires
set_complex-requires c =
    let a = c.args in
    let l = c.loop-i in
    (scaled_room (cx a.k) a.len a.at a.words.now a.numbers.now a.t_words.now a.t_numbers.now c.requires l.t_words l.t_numbers l.place l.i l.invariant c.loop-i-test.true
    (onto c.term_at-t.result) c.term_at-t.ensures (ap floats.small (sym c.norm_sqr.ensures) ∙ sym c.negligible.ensures ∙ c.if-negligible.false)).1

pub overflow_add-place : goal.overflow_add-place
overflow_add-place c =
    let a = c.args in
    let l = c.loop-i in
    let r = scaled_room (cx a.k) a.len a.at a.words.now a.numbers.now a.t_words.now a.t_numbers.now c.requires l.t_words l.t_numbers l.place l.i l.invariant c.loop-i-test.true
    (onto c.term_at-t.result) c.term_at-t.ensures (ap floats.small (sym c.norm_sqr.ensures) ∙ sym c.negligible.ensures ∙ c.if-negligible.false) in
    let f : Fits w64 (length a.t_words.now) = search (c.well_formed, rules) in
    omega (arith, r.0, l.invariant.lanes_same, f.fits)

pub loop-i-preserved : goal.loop-i-preserved
loop-i-preserved c =
    let a = c.args in
    let l = c.loop-i in
    let w = c.set_word in
    let z = c.set_complex in
    let t = c.term_at-t in
    scaled_keeps (cx a.k) a.len a.at a.words.now a.numbers.now a.t_words.now a.t_numbers.now c.requires l.t_words l.t_numbers l.place l.i l.invariant c.loop-i-test.true
    (onto t.result) t.ensures (ap floats.small (sym c.norm_sqr.ensures) ∙ sym c.negligible.ensures ∙ c.if-negligible.false) _ _
    (scaled_lays (cx a.k) t.result c.mul.result l.place l.t_words _ l.t_numbers _ c.mul.ensures w.ensures.lanes z.ensures.floats_are) w.auto.table z.auto.table

pub returns : goal.returns
returns c =
    let a = c.args in
    let l = c.loop-i in
    scaled_done (cx a.k) a.len a.at a.words.now a.numbers.now a.t_words.now a.t_numbers.now c.requires l.t_words l.t_numbers l.place l.i l.invariant c.loop-i-test.false
