-- SPDX-FileCopyrightText: 2026 The PPVM Authors
-- SPDX-License-Identifier: Apache-2.0

-- `limits::threshold` meets its contract. Assumes nothing.
use lib.Ieee.{of_bits, round}
use Rattle.limits.proofs.LimitLaws.{tau_default, tau_given}
use Rattle.limits.proofs.threshold.Goals as goal

pub returns-then-limits-eq0 : goal.returns-then-limits-eq0
unfolding of_bits round
returns-then-limits-eq0 c = tau_default c.args.limits c.if-limits-eq0.true

pub returns : goal.returns
returns c = tau_given c.args.limits c.if-limits-eq0.false
