-- SPDX-FileCopyrightText: 2026 The PPVM Authors
-- SPDX-License-Identifier: Apache-2.0

-- `list::list_above` meets its contract: after each turn, laying what is left would finish the list. Assumes nothing.
use mathlib.Core.Path.{refl, sym, ◌∙◌}
use lib.Ieee.{nan}
use lib.ListN.{get_or, length-set}
use Rattle.passes.proofs.ListLaws.{list_passes, list_place, list_lays, list_done}
use Rattle.passes.proofs.list.list_above.Goals as goal
use Rattle.passes.proofs.list.list_above.Goals.{then-is_above, else-is_above}

pub set_word-requires : goal.set_word-requires
set_word-requires c =
    let l = c.loop-i in
    let r = list_place c.args.tau_add c.args.words.now c.args.sums.now c.args.order.now c.args.out_words.now c.args.out_values.now c.requires l.out_words l.out_values l.place l.i l.invariant c.loop-i-test.true (sym c.is_above.ensures ∙ c.if-is_above.true) in
    r.0

pub bounds-out_values-place : goal.bounds-out_values-place
bounds-out_values-place c =
    let l = c.loop-i in
    let r = list_place c.args.tau_add c.args.words.now c.args.sums.now c.args.order.now c.args.out_words.now c.args.out_values.now c.requires l.out_words l.out_values l.place l.i l.invariant c.loop-i-test.true (sym c.is_above.ensures ∙ c.if-is_above.true) in
    r.1

pub loop-i-preserved : goal.loop-i-preserved
loop-i-preserved c =
    let l = c.loop-i in
    elim c.if-is_above.branch [
      | then-is_above w ↦ rw (w.out_words-is, w.out_values-is, w.place-is) (list_lays c.args.tau_add c.args.words.now c.args.sums.now c.args.order.now c.args.out_words.now c.args.out_values.now c.requires l.out_words l.out_values l.place l.i l.invariant c.loop-i-test.true (sym c.is_above.ensures ∙ w.if-is_above.true) _ _ _ w.word_at-w.ensures w.set_word.ensures.lanes refl w.set_word.auto.table (length-set l.out_values l.place (get_or c.args.sums.now (get_or c.args.order.now l.i 0) nan)))
      | else-is_above w ↦ rw (w.out_words-is, w.out_values-is, w.place-is) (list_passes c.args.tau_add c.args.words.now c.args.sums.now c.args.order.now c.args.out_words.now c.args.out_values.now c.requires l.out_words l.out_values l.place l.i l.invariant c.loop-i-test.true (sym c.is_above.ensures ∙ w.if-is_above.false))
    ]

pub returns : goal.returns
returns c =
    let l = c.loop-i in
    list_done c.args.tau_add c.args.words.now c.args.sums.now c.args.order.now c.args.out_words.now c.args.out_values.now c.requires l.out_words l.out_values l.place l.i l.invariant c.loop-i-test.false
