-- SPDX-FileCopyrightText: 2026 The PPVM Authors
-- SPDX-License-Identifier: Apache-2.0

-- `pairs::put_pair` meets its contract: one return for each place of p. Assumes nothing.
use mathlib.Core.Path.{sym, ◌∙◌}
use Rattle.rule_terms.proofs.PutsLaws.{puts_nothing, puts_same}
use Rattle.rules_by_scan.proofs.PairItems.{diagonal_on, diagonal_off, both_on, left_on, right_on, both_off}
use Rattle.rules_by_scan.proofs.pairs.put_pair.Goals as goal

pub same_range-requires : goal.same_range-requires
same_range-requires c = tt

pub returns-then-on_left : goal.returns-then-on_left
returns-then-on_left c = λ t ew en.
    let a = c.args in
    puts_same a.room a.len a.lanes.now a.sums.now c.requires.0 _ _ _ _ _ (sym (diagonal_on a.p t a.t_words.now a.t_numbers.now ew en a.left a.right a.factors a.product (sym c.same_range.ensures ∙ c.if-same_range.true) (sym (c.overlaps-on_left.ensures a.t_numbers.now c.requires.1.numbers_long) ∙ c.if-on_left.true)))
    c.put_folded.ensures

pub returns-then-same_range : goal.returns-then-same_range
returns-then-same_range c = λ t ew en.
    let a = c.args in
    puts_nothing a.room a.len a.lanes.now a.sums.now c.requires.0 _ (diagonal_off a.p t a.t_words.now a.t_numbers.now ew en a.left a.right a.factors a.product (sym c.same_range.ensures ∙ c.if-same_range.true) (sym (c.overlaps-on_left.ensures a.t_numbers.now c.requires.1.numbers_long) ∙ c.if-on_left.false))

pub returns-then-on_right : goal.returns-then-on_right
returns-then-on_right c = λ t ew en.
    let a = c.args in
    puts_same a.room a.len a.lanes.now a.sums.now c.requires.0 _ _ _ _ _ (sym (both_on a.p t a.t_words.now a.t_numbers.now ew en a.left a.right a.factors a.product (sym c.same_range.ensures ∙ c.if-same_range.false) (sym (c.overlaps-on_left.ensures a.t_numbers.now c.requires.1.numbers_long) ∙ c.if-on_left-2.true) (sym (c.overlaps-on_right.ensures a.t_numbers.now c.requires.2.numbers_long) ∙ c.if-on_right.true)))
    c.put_doubled.ensures

pub returns-then-on_left-2 : goal.returns-then-on_left-2
returns-then-on_left-2 c = λ t ew en.
    let a = c.args in
    puts_same a.room a.len a.lanes.now a.sums.now c.requires.0 _ _ _ _ _ (sym (left_on a.p t a.t_words.now a.t_numbers.now ew en a.left a.right a.factors a.product (sym c.same_range.ensures ∙ c.if-same_range.false) (sym (c.overlaps-on_left.ensures a.t_numbers.now c.requires.1.numbers_long) ∙ c.if-on_left-2.true) (sym (c.overlaps-on_right.ensures a.t_numbers.now c.requires.2.numbers_long) ∙ c.if-on_right.false)))
    c.put_one.ensures

pub returns-then-on_right-2 : goal.returns-then-on_right-2
returns-then-on_right-2 c = λ t ew en.
    let a = c.args in
    puts_same a.room a.len a.lanes.now a.sums.now c.requires.0 _ _ _ _ _ (sym (right_on a.p t a.t_words.now a.t_numbers.now ew en a.left a.right a.factors a.product (sym c.same_range.ensures ∙ c.if-same_range.false) (sym (c.overlaps-on_left.ensures a.t_numbers.now c.requires.1.numbers_long) ∙ c.if-on_left-2.false) (sym (c.overlaps-on_right.ensures a.t_numbers.now c.requires.2.numbers_long) ∙ c.if-on_right-2.true)))
    c.put_one-then-on_right-2.ensures

pub returns : goal.returns
returns c = λ t ew en.
    let a = c.args in
    puts_nothing a.room a.len a.lanes.now a.sums.now c.requires.0 _ (both_off a.p t a.t_words.now a.t_numbers.now ew en a.left a.right a.factors a.product (sym c.same_range.ensures ∙ c.if-same_range.false) (sym (c.overlaps-on_left.ensures a.t_numbers.now c.requires.1.numbers_long) ∙ c.if-on_left-2.false) (sym (c.overlaps-on_right.ensures a.t_numbers.now c.requires.2.numbers_long) ∙ c.if-on_right-2.false))
