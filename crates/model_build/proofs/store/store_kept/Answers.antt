-- SPDX-FileCopyrightText: 2026 The PPVM Authors
-- SPDX-License-Identifier: Apache-2.0

-- `store::store_kept` meets its contract: after each turn the sums left so far are laid. Assumes nothing.
use mathlib.Core.Path.{sym, ap, ◌∙◌}
use lib.ListN.{length}
use mir.Val.{Fits}
use mir.Syntax.{w64}
use Rattle.number.specs.Floats.{floats}
use Rattle.model.specs.Between.{onto}
use Rattle.model_build.proofs.StoreLaws.{keep_start, keep_drops, keep_room, keep_keeps}
use borrow.Author.Rules.{rules}
use native.Mathlib.Omega.{arith}
use Rattle.model_build.proofs.store.store_kept.Goals as goal

pub loop-i-init : goal.loop-i-init
loop-i-init c = let a = c.args in keep_start a.len a.at a.words.now a.numbers.now a.t_words.now a.t_numbers.now c.requires

pub loop-i-preserved-then-negligible : goal.loop-i-preserved-then-negligible
loop-i-preserved-then-negligible c =
    let a = c.args in
    let l = c.loop-i in
    keep_drops a.len a.at a.words.now a.numbers.now a.t_words.now a.t_numbers.now c.requires l.t_words l.t_numbers l.place l.i l.invariant c.loop-i-test.true
    (onto c.term_at-t.result) c.term_at-t.ensures (ap floats.small (sym c.norm_sqr.ensures) ∙ sym c.negligible.ensures ∙ c.if-negligible.true)

pub lay_term-requires : goal.lay_term-requires
lay_term-requires c =
    let a = c.args in
    let l = c.loop-i in
    keep_room a.len a.at a.words.now a.numbers.now a.t_words.now a.t_numbers.now c.requires l.t_words l.t_numbers l.place l.i l.invariant c.loop-i-test.true
    (onto c.term_at-t.result) c.term_at-t.ensures (ap floats.small (sym c.norm_sqr.ensures) ∙ sym c.negligible.ensures ∙ c.if-negligible.false)

pub overflow_add-place : goal.overflow_add-place
overflow_add-place c =
    let a = c.args in
    let l = c.loop-i in
    let r = keep_room a.len a.at a.words.now a.numbers.now a.t_words.now a.t_numbers.now c.requires l.t_words l.t_numbers l.place l.i l.invariant c.loop-i-test.true
    (onto c.term_at-t.result) c.term_at-t.ensures (ap floats.small (sym c.norm_sqr.ensures) ∙ sym c.negligible.ensures ∙ c.if-negligible.false) in
    let f : Fits w64 (length a.t_words.now) = search (c.well_formed, rules) in
    omega (arith, r.0, l.invariant.lanes_same, f.fits)

pub loop-i-preserved : goal.loop-i-preserved
loop-i-preserved c =
    let a = c.args in
    let l = c.loop-i in
    let p = c.lay_term in
    keep_keeps a.len a.at a.words.now a.numbers.now a.t_words.now a.t_numbers.now c.requires l.t_words l.t_numbers l.place l.i l.invariant c.loop-i-test.true
    (onto c.term_at-t.result) c.term_at-t.ensures (ap floats.small (sym c.norm_sqr.ensures) ∙ sym c.negligible.ensures ∙ c.if-negligible.false) _ _ p.ensures p.auto.t_words p.auto.t_numbers
