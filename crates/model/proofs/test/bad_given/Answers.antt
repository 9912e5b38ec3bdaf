-- SPDX-FileCopyrightText: 2026 The PPVM Authors
-- SPDX-License-Identifier: Apache-2.0

-- `test::bad_given` meets its contract. Assumes nothing.
use mathlib.Core.Path.{ap}
use mathlib.Core.Bool.{not}
use Rattle.model.proofs.Choices.{or_first, or_second}
use Rattle.model.proofs.test.bad_given.Goals as goal

pub returns-then-not-in_range : goal.returns-then-not-in_range
returns-then-not-in_range c = or_first _ (ap not c.in_range.ensures) c.if-not-in_range.true-raw

pub returns : goal.returns
returns c = or_second (ap not c.in_range.ensures) c.if-not-in_range.false-raw (ap not c.in_range-2.ensures)
