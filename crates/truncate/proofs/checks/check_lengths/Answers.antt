-- SPDX-FileCopyrightText: 2026 The PPVM Authors
-- SPDX-License-Identifier: Apache-2.0

-- `checks::check_lengths` meets its contract, answer by answer. Assumes nothing.
use mathlib.Core.Path.{ap, ◌∙◌}
use borrow.Author.Tests.{eq-eqb, ne_eqb}
use Rattle.lent.specs.Tests.{where_any}
use Rattle.truncate.proofs.ChecksLaws.{lanes_short, coeffs_short, protected_over, order_short, work_short, fixed_short, kept_short, lengths_accepted}
use Rattle.truncate.proofs.checks.check_lengths.Goals as goal

pub returns-then-words-len : goal.returns-then-words-len
returns-then-words-len c n =
    let a = c.args in
    c.mismatch.ensures ∙ lanes_short a.len a.words.now a.coeffs.now a.order.now a.work.now a.fixed.now a.kept.now n a.protected.now c.if-words-len.true

pub returns-then-coeffs-len : goal.returns-then-coeffs-len
returns-then-coeffs-len c n =
    let a = c.args in
    c.mismatch-then-coeffs-len.ensures ∙ coeffs_short a.len a.words.now a.coeffs.now a.order.now a.work.now a.fixed.now a.kept.now n a.protected.now c.if-words-len.false c.if-coeffs-len.true

pub returns-then-protected-count : goal.returns-then-protected-count
returns-then-protected-count c n =
    let a = c.args in
    c.mismatch-then-protected-count.ensures ∙ protected_over a.len a.words.now a.coeffs.now a.order.now a.work.now a.fixed.now a.kept.now n a.protected.now c.if-words-len.false c.if-coeffs-len.false (ne_eqb _ _ c.if-protected-count.true)

pub returns-then-order-places : goal.returns-then-order-places
returns-then-order-places c n =
    let a = c.args in
    c.mismatch-then-order-places.ensures ∙ order_short a.len a.words.now a.coeffs.now a.order.now a.work.now a.fixed.now a.kept.now n a.protected.now c.if-words-len.false c.if-coeffs-len.false (eq-eqb _ _ c.if-protected-count.false) _ (c.where_any-places.ensures ∙ ap (where_any a.len) c.larger.ensures) c.if-order-places.true

pub returns-then-work-places : goal.returns-then-work-places
returns-then-work-places c n =
    let a = c.args in
    c.mismatch-then-work-places.ensures ∙ work_short a.len a.words.now a.coeffs.now a.order.now a.work.now a.fixed.now a.kept.now n a.protected.now c.if-words-len.false c.if-coeffs-len.false (eq-eqb _ _ c.if-protected-count.false) _ (c.where_any-places.ensures ∙ ap (where_any a.len) c.larger.ensures) c.if-order-places.false c.if-work-places.true

pub returns-then-fixed-len : goal.returns-then-fixed-len
returns-then-fixed-len c n =
    let a = c.args in
    c.mismatch-then-fixed-len.ensures ∙ fixed_short a.len a.words.now a.coeffs.now a.order.now a.work.now a.fixed.now a.kept.now n a.protected.now c.if-words-len.false c.if-coeffs-len.false (eq-eqb _ _ c.if-protected-count.false) _ (c.where_any-places.ensures ∙ ap (where_any a.len) c.larger.ensures) c.if-order-places.false c.if-work-places.false c.if-fixed-len.true

pub returns-then-kept-len : goal.returns-then-kept-len
returns-then-kept-len c n =
    let a = c.args in
    c.mismatch-then-kept-len.ensures ∙ kept_short a.len a.words.now a.coeffs.now a.order.now a.work.now a.fixed.now a.kept.now n a.protected.now c.if-words-len.false c.if-coeffs-len.false (eq-eqb _ _ c.if-protected-count.false) _ (c.where_any-places.ensures ∙ ap (where_any a.len) c.larger.ensures) c.if-order-places.false c.if-work-places.false c.if-fixed-len.false c.if-kept-len.true

pub returns : goal.returns
returns c n =
    let a = c.args in
    lengths_accepted a.len a.words.now a.coeffs.now a.order.now a.work.now a.fixed.now a.kept.now n a.protected.now c.if-words-len.false c.if-coeffs-len.false (eq-eqb _ _ c.if-protected-count.false) _ (c.where_any-places.ensures ∙ ap (where_any a.len) c.larger.ensures) c.if-order-places.false c.if-work-places.false c.if-fixed-len.false c.if-kept-len.false
