-- SPDX-FileCopyrightText: 2026 The PPVM Authors
-- SPDX-License-Identifier: Apache-2.0

-- What lasts over the loop of `test::test_each`.
use Rattle.model.specs.Between.{term_fails}
use Rattle.lent.proofs.Firsts.{NoneBefore}
use Rattle.model.proofs.test.test_each.Given as goal

abbrev pub invariant-loop-i : goal.invariant-loop-i
invariant-loop-i l = NoneBefore (term_fails l.n l.words l.numbers) l.i
