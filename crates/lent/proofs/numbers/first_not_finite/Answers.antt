-- SPDX-FileCopyrightText: 2026 The PPVM Authors
-- SPDX-License-Identifier: Apache-2.0

-- `numbers::first_not_finite` meets its contract: the numbers before k are finite. Assumes nothing.
use mathlib.Core.Path.{ap}
use mathlib.Core.Bool.{not}
use Rattle.lent.proofs.Firsts.{stops_here, goes_on, stops_last}
use Rattle.lent.specs.Numbers.{not_finite}
use Rattle.lent.proofs.numbers.first_not_finite.Goals as goal

pub returns-then-not-is_finite : goal.returns-then-not-is_finite
unfolding not_finite
returns-then-not-is_finite c = stops_here _ _ _ c.loop-k-test.true c.loop-k.invariant (ap not c.is_finite.ensures) (ap not c.if-not-is_finite.true)

pub loop-k-preserved : goal.loop-k-preserved
unfolding not_finite
loop-k-preserved c = goes_on _ _ c.loop-k.invariant (ap not c.is_finite.ensures) (ap not c.if-not-is_finite.false)

pub returns : goal.returns
returns c = stops_last _ _ _ c.loop-k-test.false c.loop-k.invariant
