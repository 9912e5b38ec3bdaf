-- SPDX-FileCopyrightText: 2026 The PPVM Authors
-- SPDX-License-Identifier: Apache-2.0

-- `work::first_not_clear` meets its contract: the places before k are +0.0. Assumes nothing.
use mathlib.Core.Path.{ap}
use mathlib.Core.Bool.{not}
use Rattle.lent.proofs.Firsts.{stops_here, stops_last}
use Rattle.csr.proofs.work.first_not_clear.Goals as goal

pub returns-then-not-is_clear : goal.returns-then-not-is_clear
returns-then-not-is_clear c = stops_here _ _ _ c.loop-k-test.true c.loop-k.invariant (ap not c.is_clear.ensures) (ap not c.if-not-is_clear.true)

pub returns : goal.returns
returns c = stops_last _ _ _ c.loop-k-test.false c.loop-k.invariant
