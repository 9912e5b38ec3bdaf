-- SPDX-FileCopyrightText: 2026 The PPVM Authors
-- SPDX-License-Identifier: Apache-2.0

-- `better_of` meets its contract: one case for each outcome of the comparison. Assumes nothing.
use Rattle.std.proofs.Common.{le-ltb, lt-ltb}
use Rattle.expm.specs.Selects.{better}
use Rattle.expm.proofs.better_of.Goals as goal

pub returns-then-cost_of : goal.returns-then-cost_of
unfolding better
returns-then-cost_of c = rw (← c.cost_of.ensures, ← c.cost_of-2.ensures, lt-ltb _ _ c.if-cost_of.true)

pub returns : goal.returns
unfolding better
returns c = rw (← c.cost_of.ensures, ← c.cost_of-2.ensures, le-ltb _ _ c.if-cost_of.false)
