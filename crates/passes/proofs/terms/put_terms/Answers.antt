-- SPDX-FileCopyrightText: 2026 The PPVM Authors
-- SPDX-License-Identifier: Apache-2.0

-- `terms::put_terms` meets its contract: after each turn what stands and what is left to put are the whole. Assumes nothing.
use mathlib.Core.Path.{sym, ◌∙◌}
use Rattle.word.specs.Flat.{words as words_in}
use Rattle.model.specs.Between.{onto}
use Rattle.passes.specs.Leaks.{outside}
use Rattle.passes.proofs.TermLaws.{term_passes, term_skips, term_puts, term_full, term_done}
use Rattle.passes.proofs.terms.put_terms.Goals as goal
use Rattle.passes.proofs.terms.put_terms.Goals.{then-is_outside+in-Some, else-is_outside}

pub loop-i-preserved-then-is_zero : goal.loop-i-preserved-then-is_zero
loop-i-preserved-then-is_zero c =
    let a = c.args in
    let l = c.loop-i in
    let t = c.term_at-t in
    (term_passes (outside (words_in a.basis.now) (words_in a.protected.now)) a.c a.touched a.sum_words.now a.term_sums.now a.room c.requires.0 c.requires.1 _ l.words l.sums l.order l.work l.held l.i l.invariant.0 c.loop-i-test.true (onto t.result) t.ensures (sym c.is_zero.ensures ∙ c.if-is_zero.true), l.invariant.1, l.invariant.2, l.invariant.3, l.invariant.4)

pub returns-in_default : goal.returns-in_default
returns-in_default c =
    let a = c.args in
    let l = c.loop-i in
    let t = c.term_at-t in
    let q = c.put_candidate-added in
    term_full (outside (words_in a.basis.now) (words_in a.protected.now)) a.c a.touched a.sum_words.now a.term_sums.now a.room c.requires.0 c.requires.1 _ l.words l.sums l.order l.work l.held l.i l.invariant.0 c.loop-i-test.true (onto t.result) t.ensures (sym c.is_zero.ensures ∙ c.if-is_zero.false) (sym c.is_outside.ensures ∙ c.if-is_outside.true) _ _ _ _ q.result q.ensures c.in_default.is

pub loop-i-preserved : goal.loop-i-preserved
loop-i-preserved c =
    let a = c.args in
    let l = c.loop-i in
    let t = c.term_at-t in
    elim c.if-is_outside.branch [
      | then-is_outside+in-Some w ↦ let q = w.put_candidate-added in rw (w.words-is, w.sums-is, w.order-is, w.work-is, w.held-is) (term_puts (outside (words_in a.basis.now) (words_in a.protected.now)) a.c a.touched a.sum_words.now a.term_sums.now a.room c.requires.0 c.requires.1 _ l.words l.sums l.order l.work l.held l.i l.invariant.0 c.loop-i-test.true (onto t.result) t.ensures (sym c.is_zero.ensures ∙ c.if-is_zero.false) (sym c.is_outside.ensures ∙ w.if-is_outside.true) _ _ _ _ q.result q.ensures _ w.in-Some.is, q.auto.words ∙ l.invariant.1, q.auto.sums ∙ l.invariant.2, q.auto.heads ∙ l.invariant.3, q.auto.nexts ∙ l.invariant.4)
      | else-is_outside w ↦ rw (w.words-is, w.sums-is, w.order-is, w.work-is, w.held-is) (term_skips (outside (words_in a.basis.now) (words_in a.protected.now)) a.c a.touched a.sum_words.now a.term_sums.now a.room c.requires.0 c.requires.1 _ l.words l.sums l.order l.work l.held l.i l.invariant.0 c.loop-i-test.true (onto t.result) t.ensures (sym c.is_zero.ensures ∙ c.if-is_zero.false) (sym c.is_outside.ensures ∙ w.if-is_outside.false), l.invariant.1, l.invariant.2, l.invariant.3, l.invariant.4)
    ]

pub returns : goal.returns
returns c =
    let a = c.args in
    let l = c.loop-i in
    term_done (outside (words_in a.basis.now) (words_in a.protected.now)) a.c a.touched a.sum_words.now a.term_sums.now a.room c.requires.0 c.requires.1 _ l.words l.sums l.order l.work l.held l.i l.invariant.0 c.loop-i-test.false
