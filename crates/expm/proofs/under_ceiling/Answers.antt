-- SPDX-FileCopyrightText: 2026 The PPVM Authors
-- SPDX-License-Identifier: Apache-2.0

-- `under_ceiling` meets its contract: one case for each outcome of the comparison. Assumes nothing.
use Rattle.std.proofs.Common.{le-ltb, lt-ltb}
use Rattle.expm.specs.Selects.{under_ceiling}
use Rattle.expm.proofs.under_ceiling.Goals as goal

pub returns-then-cost_of-gt-MAX_PRODUCTS : goal.returns-then-cost_of-gt-MAX_PRODUCTS
unfolding under_ceiling
returns-then-cost_of-gt-MAX_PRODUCTS c = rw (← c.cost_of.ensures, lt-ltb _ _ c.if-cost_of-gt-MAX_PRODUCTS.true)

pub returns : goal.returns
unfolding under_ceiling
returns c = rw (← c.cost_of.ensures, le-ltb _ _ c.if-cost_of-gt-MAX_PRODUCTS.false)
