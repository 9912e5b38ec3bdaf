-- SPDX-FileCopyrightText: 2026 The PPVM Authors
-- SPDX-License-Identifier: Apache-2.0

-- What lasts over the loop of `test::test_hamiltonian`.
use Rattle.model.specs.Between.{real_fails}
use Rattle.lent.proofs.Firsts.{NoneBefore}
use Rattle.model.proofs.test.test_hamiltonian.Given as goal

abbrev pub invariant-loop-i : goal.invariant-loop-i
invariant-loop-i l = NoneBefore (real_fails l.n l.words l.coeffs) l.i
