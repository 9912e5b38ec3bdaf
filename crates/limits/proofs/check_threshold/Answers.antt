-- SPDX-FileCopyrightText: 2026 The PPVM Authors
-- SPDX-License-Identifier: Apache-2.0

-- `limits::check_threshold` meets its contract. Assumes nothing.
use Rattle.limits.proofs.LimitLaws.{tau_absent, tau_bad, tau_accepted}
use Rattle.limits.proofs.check_threshold.Goals as goal

pub returns-then-limits-eq0 : goal.returns-then-limits-eq0
returns-then-limits-eq0 c = tau_absent c.args.limits c.args.count c.if-limits-eq0.true

pub returns-then-not-finite : goal.returns-then-not-finite
returns-then-not-finite c = tau_bad c.args.limits c.args.count c.if-limits-eq0.false _ c.is_finite-finite.ensures c.if-not-finite.true-raw

pub returns : goal.returns
returns c = tau_accepted c.args.limits c.args.count c.if-limits-eq0.false _ c.is_finite-finite.ensures c.if-not-finite.false-raw
