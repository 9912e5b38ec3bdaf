-- SPDX-FileCopyrightText: 2026 The PPVM Authors
-- SPDX-License-Identifier: Apache-2.0

-- `write::first_too_large` meets its contract: the values before k are small enough. Assumes nothing.
use Rattle.lent.proofs.Firsts.{stops_here, goes_on, stops_last}
use Rattle.matrix_market.specs.Writes.{large_at}
use Rattle.matrix_market.proofs.write.first_too_large.Goals as goal

pub returns-then-is_too_large : goal.returns-then-is_too_large
unfolding large_at
returns-then-is_too_large c = stops_here _ (large_at c.args.values.now) _ c.loop-k-test.true c.loop-k.invariant c.is_too_large.ensures c.if-is_too_large.true

pub loop-k-preserved : goal.loop-k-preserved
unfolding large_at
loop-k-preserved c = goes_on (large_at c.args.values.now) _ c.loop-k.invariant c.is_too_large.ensures c.if-is_too_large.false

pub returns : goal.returns
returns c = stops_last _ _ _ c.loop-k-test.false c.loop-k.invariant
