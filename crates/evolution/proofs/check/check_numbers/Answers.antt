-- SPDX-FileCopyrightText: 2026 The PPVM Authors
-- SPDX-License-Identifier: Apache-2.0

-- `check::check_numbers` meets its contract, answer by answer. Assumes nothing.
use mathlib.Core.Path.{sym, ◌∙◌}
use Rattle.refusal.proofs.Told.{handed_on}
use Rattle.evolution.proofs.CheckLaws.{inside_refuses, coeff_bad, step_bad, threshold_bad, numbers_accepted}
use Rattle.evolution.proofs.check.check_numbers.Goals as goal

pub returns-in_err-check_inside : goal.returns-in_err-check_inside
returns-in_err-check_inside c =
    let a = c.args in
    handed_on _ _ c.from_residual.ensures.1 ∙ inside_refuses a.len a.words.now a.n a.coeffs.now a.dt a.drop_tol _ _ c.check_inside.ensures c.in_err-check_inside.was

pub returns-then-first-len : goal.returns-then-first-len
returns-then-first-len c =
    let a = c.args in
    coeff_bad a.len a.words.now a.n a.coeffs.now a.dt a.drop_tol (sym c.check_inside.ensures ∙ c.in_ok-check_inside.was) _ c.first_not_finite-first.ensures c.if-first-len.true

pub returns-then-not-is_finite : goal.returns-then-not-is_finite
returns-then-not-is_finite c =
    let a = c.args in
    step_bad a.len a.words.now a.n a.coeffs.now a.dt a.drop_tol (sym c.check_inside.ensures ∙ c.in_ok-check_inside.was) _ c.first_not_finite-first.ensures c.if-first-len.false _ c.is_finite.ensures c.if-not-is_finite.true-raw

pub returns-then-not-is_finite-2 : goal.returns-then-not-is_finite-2
returns-then-not-is_finite-2 c =
    let a = c.args in
    threshold_bad a.len a.words.now a.n a.coeffs.now a.dt a.drop_tol (sym c.check_inside.ensures ∙ c.in_ok-check_inside.was) _ c.first_not_finite-first.ensures c.if-first-len.false _ c.is_finite.ensures c.if-not-is_finite.false-raw _ c.is_finite-2.ensures c.if-not-is_finite-2.true-raw

pub returns : goal.returns
returns c =
    let a = c.args in
    numbers_accepted a.len a.words.now a.n a.coeffs.now a.dt a.drop_tol (sym c.check_inside.ensures ∙ c.in_ok-check_inside.was) _ c.first_not_finite-first.ensures c.if-first-len.false _ c.is_finite.ensures c.if-not-is_finite.false-raw _ c.is_finite-2.ensures c.if-not-is_finite-2.false-raw
