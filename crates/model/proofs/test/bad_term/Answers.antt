-- SPDX-FileCopyrightText: 2026 The PPVM Authors
-- SPDX-License-Identifier: Apache-2.0

-- `test::bad_term` meets its contract. Assumes nothing.
use mathlib.Core.Path.{ap}
use mathlib.Core.Bool.{not}
use Rattle.model.proofs.Choices.{or_first, or_second}
use Rattle.model.proofs.test.bad_term.Goals as goal

pub returns-then-reaches_beyond : goal.returns-then-reaches_beyond
returns-then-reaches_beyond c = or_first _ c.reaches_beyond.ensures c.if-reaches_beyond.true

pub returns-then-not-bounded : goal.returns-then-not-bounded
returns-then-not-bounded c = or_second c.reaches_beyond.ensures c.if-reaches_beyond.false (or_first _ (ap not c.bounded.ensures) c.if-not-bounded.true-raw)

pub returns : goal.returns
returns c = or_second c.reaches_beyond.ensures c.if-reaches_beyond.false (or_second (ap not c.bounded.ensures) c.if-not-bounded.false-raw (ap not c.bounded-2.ensures))
