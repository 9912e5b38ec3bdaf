-- SPDX-FileCopyrightText: 2026 The PPVM Authors
-- SPDX-License-Identifier: Apache-2.0

-- `admit::check_admission` meets its contract, answer by answer. Assumes nothing.
use mathlib.Core.Path.{◌∙◌}
use borrow.Author.Tests.{eq-eqb, ne_eqb}
use Rattle.truncate.proofs.AdmitTests.{qubits_many, basis_many, list_many, limit_high, lanes_short, coeffs_short, list_over, values_differ, order_short, work_short, kept_short, basis_outside, list_outside, coeffs_bad, values_bad, all_passed}
use Rattle.truncate.proofs.admit.check_admission.Goals as goal

pub returns-then-n-gt-MAX_QUBITS : goal.returns-then-n-gt-MAX_QUBITS
returns-then-n-gt-MAX_QUBITS c =
    let a = c.args in
    qubits_many a.len a.words.now a.coeffs.now a.list.now a.values.now a.order.now a.work.now a.kept.now a.n a.limit c.if-n-gt-MAX_QUBITS.true

pub returns-then-len-gt-MAX_WORDS : goal.returns-then-len-gt-MAX_WORDS
returns-then-len-gt-MAX_WORDS c =
    let a = c.args in
    basis_many a.len a.words.now a.coeffs.now a.list.now a.values.now a.order.now a.work.now a.kept.now a.n a.limit c.if-n-gt-MAX_QUBITS.false c.if-len-gt-MAX_WORDS.true

pub returns-then-listed-gt-MAX_WORDS : goal.returns-then-listed-gt-MAX_WORDS
returns-then-listed-gt-MAX_WORDS c =
    let a = c.args in
    list_many a.len a.words.now a.coeffs.now a.list.now a.values.now a.order.now a.work.now a.kept.now a.n a.limit c.if-n-gt-MAX_QUBITS.false c.if-len-gt-MAX_WORDS.false c.if-listed-gt-MAX_WORDS.true

pub returns-then-limit-gt-MAX_WORDS : goal.returns-then-limit-gt-MAX_WORDS
returns-then-limit-gt-MAX_WORDS c =
    let a = c.args in
    limit_high a.len a.words.now a.coeffs.now a.list.now a.values.now a.order.now a.work.now a.kept.now a.n a.limit c.if-n-gt-MAX_QUBITS.false c.if-len-gt-MAX_WORDS.false c.if-listed-gt-MAX_WORDS.false c.if-limit-gt-MAX_WORDS.true

pub returns-then-held-len : goal.returns-then-held-len
returns-then-held-len c =
    let a = c.args in
    c.mismatch.ensures ∙ lanes_short a.len a.words.now a.coeffs.now a.list.now a.values.now a.order.now a.work.now a.kept.now a.n a.limit c.if-n-gt-MAX_QUBITS.false c.if-len-gt-MAX_WORDS.false c.if-listed-gt-MAX_WORDS.false c.if-limit-gt-MAX_WORDS.false c.if-held-len.true

pub returns-then-coeffs-len : goal.returns-then-coeffs-len
returns-then-coeffs-len c =
    let a = c.args in
    c.mismatch-then-coeffs-len.ensures ∙ coeffs_short a.len a.words.now a.coeffs.now a.list.now a.values.now a.order.now a.work.now a.kept.now a.n a.limit c.if-n-gt-MAX_QUBITS.false c.if-len-gt-MAX_WORDS.false c.if-listed-gt-MAX_WORDS.false c.if-limit-gt-MAX_WORDS.false c.if-held-len.false c.if-coeffs-len.true

pub returns-then-list-lanes : goal.returns-then-list-lanes
returns-then-list-lanes c =
    let a = c.args in
    c.mismatch-then-list-lanes.ensures ∙ list_over a.len a.words.now a.coeffs.now a.list.now a.values.now a.order.now a.work.now a.kept.now a.n a.limit c.if-n-gt-MAX_QUBITS.false c.if-len-gt-MAX_WORDS.false c.if-listed-gt-MAX_WORDS.false c.if-limit-gt-MAX_WORDS.false c.if-held-len.false c.if-coeffs-len.false (ne_eqb _ _ c.if-list-lanes.true)

pub returns-then-count-listed : goal.returns-then-count-listed
returns-then-count-listed c =
    let a = c.args in
    c.mismatch-then-count-listed.ensures ∙ values_differ a.len a.words.now a.coeffs.now a.list.now a.values.now a.order.now a.work.now a.kept.now a.n a.limit c.if-n-gt-MAX_QUBITS.false c.if-len-gt-MAX_WORDS.false c.if-listed-gt-MAX_WORDS.false c.if-limit-gt-MAX_WORDS.false c.if-held-len.false c.if-coeffs-len.false (eq-eqb _ _ c.if-list-lanes.false) (ne_eqb _ _ c.if-count-listed.true)

pub returns-then-order-count : goal.returns-then-order-count
returns-then-order-count c =
    let a = c.args in
    c.mismatch-then-order-count.ensures ∙ order_short a.len a.words.now a.coeffs.now a.list.now a.values.now a.order.now a.work.now a.kept.now a.n a.limit c.if-n-gt-MAX_QUBITS.false c.if-len-gt-MAX_WORDS.false c.if-listed-gt-MAX_WORDS.false c.if-limit-gt-MAX_WORDS.false c.if-held-len.false c.if-coeffs-len.false (eq-eqb _ _ c.if-list-lanes.false) (eq-eqb _ _ c.if-count-listed.false) c.if-order-count.true

pub returns-then-work-count : goal.returns-then-work-count
returns-then-work-count c =
    let a = c.args in
    c.mismatch-then-work-count.ensures ∙ work_short a.len a.words.now a.coeffs.now a.list.now a.values.now a.order.now a.work.now a.kept.now a.n a.limit c.if-n-gt-MAX_QUBITS.false c.if-len-gt-MAX_WORDS.false c.if-listed-gt-MAX_WORDS.false c.if-limit-gt-MAX_WORDS.false c.if-held-len.false c.if-coeffs-len.false (eq-eqb _ _ c.if-list-lanes.false) (eq-eqb _ _ c.if-count-listed.false) c.if-order-count.false c.if-work-count.true

pub returns-then-kept-count : goal.returns-then-kept-count
returns-then-kept-count c =
    let a = c.args in
    c.mismatch-then-kept-count.ensures ∙ kept_short a.len a.words.now a.coeffs.now a.list.now a.values.now a.order.now a.work.now a.kept.now a.n a.limit c.if-n-gt-MAX_QUBITS.false c.if-len-gt-MAX_WORDS.false c.if-listed-gt-MAX_WORDS.false c.if-limit-gt-MAX_WORDS.false c.if-held-len.false c.if-coeffs-len.false (eq-eqb _ _ c.if-list-lanes.false) (eq-eqb _ _ c.if-count-listed.false) c.if-order-count.false c.if-work-count.false c.if-kept-count.true

pub returns-then-outside-len : goal.returns-then-outside-len
returns-then-outside-len c =
    let a = c.args in
    basis_outside a.len a.words.now a.coeffs.now a.list.now a.values.now a.order.now a.work.now a.kept.now a.n a.limit c.if-n-gt-MAX_QUBITS.false c.if-len-gt-MAX_WORDS.false c.if-listed-gt-MAX_WORDS.false c.if-limit-gt-MAX_WORDS.false c.if-held-len.false c.if-coeffs-len.false (eq-eqb _ _ c.if-list-lanes.false) (eq-eqb _ _ c.if-count-listed.false) c.if-order-count.false c.if-work-count.false c.if-kept-count.false _ c.first_outside-outside.ensures c.if-outside-len.true

pub returns-then-stray-count : goal.returns-then-stray-count
returns-then-stray-count c =
    let a = c.args in
    list_outside a.len a.words.now a.coeffs.now a.list.now a.values.now a.order.now a.work.now a.kept.now a.n a.limit c.if-n-gt-MAX_QUBITS.false c.if-len-gt-MAX_WORDS.false c.if-listed-gt-MAX_WORDS.false c.if-limit-gt-MAX_WORDS.false c.if-held-len.false c.if-coeffs-len.false (eq-eqb _ _ c.if-list-lanes.false) (eq-eqb _ _ c.if-count-listed.false) c.if-order-count.false c.if-work-count.false c.if-kept-count.false _ c.first_outside-outside.ensures c.if-outside-len.false _ c.first_outside-stray.ensures c.if-stray-count.true

pub returns-then-bad_coeff-len : goal.returns-then-bad_coeff-len
returns-then-bad_coeff-len c =
    let a = c.args in
    coeffs_bad a.len a.words.now a.coeffs.now a.list.now a.values.now a.order.now a.work.now a.kept.now a.n a.limit c.if-n-gt-MAX_QUBITS.false c.if-len-gt-MAX_WORDS.false c.if-listed-gt-MAX_WORDS.false c.if-limit-gt-MAX_WORDS.false c.if-held-len.false c.if-coeffs-len.false (eq-eqb _ _ c.if-list-lanes.false) (eq-eqb _ _ c.if-count-listed.false) c.if-order-count.false c.if-work-count.false c.if-kept-count.false _ c.first_outside-outside.ensures c.if-outside-len.false _ c.first_outside-stray.ensures c.if-stray-count.false _ c.first_not_finite-bad_coeff.ensures c.if-bad_coeff-len.true

pub returns-then-bad_value-count : goal.returns-then-bad_value-count
returns-then-bad_value-count c =
    let a = c.args in
    values_bad a.len a.words.now a.coeffs.now a.list.now a.values.now a.order.now a.work.now a.kept.now a.n a.limit c.if-n-gt-MAX_QUBITS.false c.if-len-gt-MAX_WORDS.false c.if-listed-gt-MAX_WORDS.false c.if-limit-gt-MAX_WORDS.false c.if-held-len.false c.if-coeffs-len.false (eq-eqb _ _ c.if-list-lanes.false) (eq-eqb _ _ c.if-count-listed.false) c.if-order-count.false c.if-work-count.false c.if-kept-count.false _ c.first_outside-outside.ensures c.if-outside-len.false _ c.first_outside-stray.ensures c.if-stray-count.false _ c.first_not_finite-bad_coeff.ensures c.if-bad_coeff-len.false _ c.first_not_finite-bad_value.ensures c.if-bad_value-count.true

pub returns : goal.returns
returns c =
    let a = c.args in
    all_passed a.len a.words.now a.coeffs.now a.list.now a.values.now a.order.now a.work.now a.kept.now a.n a.limit c.if-n-gt-MAX_QUBITS.false c.if-len-gt-MAX_WORDS.false c.if-listed-gt-MAX_WORDS.false c.if-limit-gt-MAX_WORDS.false c.if-held-len.false c.if-coeffs-len.false (eq-eqb _ _ c.if-list-lanes.false) (eq-eqb _ _ c.if-count-listed.false) c.if-order-count.false c.if-work-count.false c.if-kept-count.false _ c.first_outside-outside.ensures c.if-outside-len.false _ c.first_outside-stray.ensures c.if-stray-count.false _ c.first_not_finite-bad_coeff.ensures c.if-bad_coeff-len.false _ c.first_not_finite-bad_value.ensures c.if-bad_value-count.false
