-- SPDX-FileCopyrightText: 2026 The PPVM Authors
-- SPDX-License-Identifier: Apache-2.0

-- `check::check_finite` meets its contract, answer by answer. Assumes nothing.
use mathlib.Core.Path.{ap}
use mathlib.Core.Bool.{not}
use Rattle.norm.proofs.CheckLaws.{step_bad, threshold_bad, finite_both}
use Rattle.norm.proofs.check.check_finite.Goals as goal

pub returns-then-not-is_finite : goal.returns-then-not-is_finite
returns-then-not-is_finite c = let a = c.args in step_bad a.dt a.drop_tol _ c.is_finite.ensures (ap not c.if-not-is_finite.true)

pub returns-then-not-is_finite-2 : goal.returns-then-not-is_finite-2
returns-then-not-is_finite-2 c = let a = c.args in threshold_bad a.dt a.drop_tol _ c.is_finite.ensures (ap not c.if-not-is_finite.false) _ c.is_finite-2.ensures (ap not c.if-not-is_finite-2.true)

pub returns : goal.returns
returns c = let a = c.args in finite_both a.dt a.drop_tol _ c.is_finite.ensures (ap not c.if-not-is_finite.false) _ c.is_finite-2.ensures (ap not c.if-not-is_finite-2.false)
