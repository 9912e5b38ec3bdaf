-- SPDX-FileCopyrightText: 2026 The PPVM Authors
-- SPDX-License-Identifier: Apache-2.0

-- `list::list_sums` meets its contract: after each turn, laying what is left would finish the list. Assumes nothing.
use mathlib.Core.Path.{refl, sym, ◌∙◌}
use lib.ListN.{length-set}
use Rattle.model.specs.Between.{onto}
use Rattle.action.proofs.ListLaws.{list_passes, list_place, list_lays, list_done}
use Rattle.action.proofs.list.list_sums.Goals as goal

pub loop-i-preserved-then-is_zero : goal.loop-i-preserved-then-is_zero
loop-i-preserved-then-is_zero c =
    let l = c.loop-i in
    list_passes c.args.len c.args.words.now c.args.sums.now c.args.out_words.now c.args.out_values.now c.requires l.out_words l.out_values l.place l.i l.invariant c.loop-i-test.true (onto c.term_at-t.result) c.term_at-t.ensures (sym c.is_zero.ensures ∙ c.if-is_zero.true)

pub set_word-requires : goal.set_word-requires
set_word-requires c =
    let l = c.loop-i in
    let r = list_place c.args.len c.args.words.now c.args.sums.now c.args.out_words.now c.args.out_values.now c.requires l.out_words l.out_values l.place l.i l.invariant c.loop-i-test.true (onto c.term_at-t.result) c.term_at-t.ensures (sym c.is_zero.ensures ∙ c.if-is_zero.false) in
    r.0

pub bounds-out_values-place : goal.bounds-out_values-place
bounds-out_values-place c =
    let l = c.loop-i in
    let r = list_place c.args.len c.args.words.now c.args.sums.now c.args.out_words.now c.args.out_values.now c.requires l.out_words l.out_values l.place l.i l.invariant c.loop-i-test.true (onto c.term_at-t.result) c.term_at-t.ensures (sym c.is_zero.ensures ∙ c.if-is_zero.false) in
    r.1

pub loop-i-preserved : goal.loop-i-preserved
loop-i-preserved c =
    let l = c.loop-i in
    list_lays c.args.len c.args.words.now c.args.sums.now c.args.out_words.now c.args.out_values.now c.requires l.out_words l.out_values l.place l.i l.invariant c.loop-i-test.true (onto c.term_at-t.result) c.term_at-t.ensures (sym c.is_zero.ensures ∙ c.if-is_zero.false) _ _ c.set_word.ensures.lanes refl c.set_word.auto.table (length-set l.out_values l.place c.term_at-t.result.number.re)

pub returns : goal.returns
returns c =
    let l = c.loop-i in
    list_done c.args.len c.args.words.now c.args.sums.now c.args.out_words.now c.args.out_values.now c.requires l.out_words l.out_values l.place l.i l.invariant c.loop-i-test.false
