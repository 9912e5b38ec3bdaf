-- SPDX-FileCopyrightText: 2026 The PPVM Authors
-- SPDX-License-Identifier: Apache-2.0

-- What lasts over the loop of `test::test_given`.
use mathlib.Core.Path.{◌≡◌}
use Rattle.lent.specs.Tests.{first_to}
use Rattle.model.specs.Between.{given_fails}
use Rattle.model.proofs.test.test_given.Given as goal

abbrev pub invariant-loop-j : goal.invariant-loop-j
invariant-loop-j l = l.first ≡ first_to l.terms (given_fails l.j l.jumps l.rates l.numbers)
