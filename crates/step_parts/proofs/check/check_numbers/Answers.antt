-- SPDX-FileCopyrightText: 2026 The PPVM Authors
-- SPDX-License-Identifier: Apache-2.0

-- `check::check_numbers` meets its contract, answer by answer. Assumes nothing.
use mathlib.Core.Path.{sym, ◌∙◌}
use Rattle.refusal.proofs.Told.{handed_on}
use Rattle.step_parts.proofs.CheckLaws.{entries_refused, step_bad, threshold_bad, tau_left}
use Rattle.step_parts.proofs.check.check_numbers.Goals as goal

pub returns-in_err-check_entries : goal.returns-in_err-check_entries
returns-in_err-check_entries c =
    let a = c.args in
    handed_on _ _ c.from_residual.ensures.1 ∙ entries_refused a.n a.words.now a.coeffs.now a.len a.protected.now a.limits a.dt a.drop_tol _ _ c.check_entries.ensures c.in_err-check_entries.was

pub returns-then-not-is_finite : goal.returns-then-not-is_finite
returns-then-not-is_finite c =
    let a = c.args in
    step_bad a.n a.words.now a.coeffs.now a.len a.protected.now a.limits a.dt a.drop_tol (sym c.check_entries.ensures ∙ c.in_ok-check_entries.was) _ c.is_finite.ensures c.if-not-is_finite.true-raw

pub returns-then-not-is_finite-2 : goal.returns-then-not-is_finite-2
returns-then-not-is_finite-2 c =
    let a = c.args in
    threshold_bad a.n a.words.now a.coeffs.now a.len a.protected.now a.limits a.dt a.drop_tol (sym c.check_entries.ensures ∙ c.in_ok-check_entries.was) _ c.is_finite.ensures c.if-not-is_finite.false-raw _ c.is_finite-2.ensures c.if-not-is_finite-2.true-raw

pub returns : goal.returns
returns c =
    let a = c.args in
    c.check_threshold.ensures ∙ tau_left a.n a.words.now a.coeffs.now a.len a.protected.now a.limits a.dt a.drop_tol (sym c.check_entries.ensures ∙ c.in_ok-check_entries.was) _ c.is_finite.ensures c.if-not-is_finite.false-raw _ c.is_finite-2.ensures c.if-not-is_finite-2.false-raw
