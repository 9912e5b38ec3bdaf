-- SPDX-FileCopyrightText: 2026 The PPVM Authors
-- SPDX-License-Identifier: Apache-2.0

-- `scalar::in_range` meets its contract: the literals are 2^−200 and 2^200. Assumes nothing.
use lib.Ieee.{of_bits}
use Rattle.number.proofs.RangeLaws.{range_zero, range_above, range_below}
use Rattle.number.proofs.scalar.in_range.Goals as goal

pub returns-then-x : goal.returns-then-x
returns-then-x c = range_zero c.args.x c.if-x.true

pub returns-then-m : goal.returns-then-m
unfolding of_bits
returns-then-m c = range_above c.args.x c.magnitude-m.result c.if-x.false c.magnitude-m.ensures c.if-m.true

pub returns-else-m : goal.returns-else-m
unfolding of_bits
returns-else-m c = range_below c.args.x c.magnitude-m.result c.if-x.false c.magnitude-m.ensures c.if-m.false
