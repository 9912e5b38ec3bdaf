-- SPDX-FileCopyrightText: 2026 The PPVM Authors
-- SPDX-License-Identifier: Apache-2.0

-- `words::first_outside` meets its contract: none of the words before k is outside. Assumes nothing.
use Rattle.lent.proofs.Firsts.{stops_here, goes_on, stops_last}
use Rattle.lent.proofs.WordLaws.{outside_at_lem}
use Rattle.lent.proofs.words.first_outside.Goals as goal

pub returns-then-reaches_beyond : goal.returns-then-reaches_beyond
returns-then-reaches_beyond c =
    stops_here _ _ _ c.loop-k-test.true c.loop-k.invariant (outside_at_lem _ _ _ c.word_at.ensures c.reaches_beyond.ensures) c.if-reaches_beyond.true

pub loop-k-preserved : goal.loop-k-preserved
loop-k-preserved c =
    goes_on _ _ c.loop-k.invariant (outside_at_lem _ _ _ c.word_at.ensures c.reaches_beyond.ensures) c.if-reaches_beyond.false

pub returns : goal.returns
returns c = stops_last _ _ _ c.loop-k-test.false c.loop-k.invariant
