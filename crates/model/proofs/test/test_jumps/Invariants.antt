-- SPDX-FileCopyrightText: 2026 The PPVM Authors
-- SPDX-License-Identifier: Apache-2.0

-- What lasts over the loop of `test::test_jumps`.
use Rattle.model.specs.Between.{entry_fails}
use Rattle.lent.proofs.Firsts.{NoneBefore}
use Rattle.model.proofs.test.test_jumps.Given as goal

abbrev pub invariant-loop-j : goal.invariant-loop-j
invariant-loop-j l = NoneBefore (entry_fails l.places l.jumps l.rates) l.j
