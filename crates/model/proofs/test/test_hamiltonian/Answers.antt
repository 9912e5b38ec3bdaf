-- SPDX-FileCopyrightText: 2026 The PPVM Authors
-- SPDX-License-Identifier: Apache-2.0

-- `test::test_hamiltonian` meets its contract: none of the terms before i fails. Assumes nothing.
use Rattle.model.specs.Between.{real_fails}
use Rattle.model.proofs.ModelTests.{real_at}
use Rattle.lent.proofs.Firsts.{stops_here, goes_on, stops_last}
use native.Mathlib.Omega.{arith}
use Rattle.model.proofs.test.test_hamiltonian.Goals as goal

pub returns-then-bad_real : goal.returns-then-bad_real
returns-then-bad_real c =
    let a = c.args in
    let l = c.loop-i in
    stops_here a.count (real_fails a.n a.words.now a.coeffs.now) l.i (omega arith) l.invariant (real_at a.n a.words.now a.coeffs.now l.i c.word_at.ensures c.bad_real.ensures) c.if-bad_real.true

pub loop-i-preserved : goal.loop-i-preserved
loop-i-preserved c =
    let a = c.args in
    let l = c.loop-i in
    goes_on (real_fails a.n a.words.now a.coeffs.now) l.i l.invariant (real_at a.n a.words.now a.coeffs.now l.i c.word_at.ensures c.bad_real.ensures) c.if-bad_real.false

pub returns : goal.returns
returns c =
    let a = c.args in
    let l = c.loop-i in
    stops_last a.count (real_fails a.n a.words.now a.coeffs.now) l.i (omega arith) l.invariant
