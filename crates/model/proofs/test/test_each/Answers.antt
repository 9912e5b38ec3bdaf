-- SPDX-FileCopyrightText: 2026 The PPVM Authors
-- SPDX-License-Identifier: Apache-2.0

-- `test::test_each` meets its contract: none of the terms before i fails. Assumes nothing.
use Rattle.model.specs.Between.{term_fails}
use Rattle.model.proofs.ModelTests.{term_at}
use Rattle.lent.proofs.Firsts.{stops_here, goes_on, stops_last}
use native.Mathlib.Omega.{arith}
use Rattle.model.proofs.test.test_each.Goals as goal

pub returns-then-bad_term : goal.returns-then-bad_term
returns-then-bad_term c =
    let a = c.args in
    let l = c.loop-i in
    stops_here a.terms (term_fails a.n a.words.now a.numbers.now) l.i (omega arith) l.invariant (term_at a.n a.words.now a.numbers.now l.i c.word_at.ensures c.bad_term.ensures) c.if-bad_term.true

pub loop-i-preserved : goal.loop-i-preserved
loop-i-preserved c =
    let a = c.args in
    let l = c.loop-i in
    goes_on (term_fails a.n a.words.now a.numbers.now) l.i l.invariant (term_at a.n a.words.now a.numbers.now l.i c.word_at.ensures c.bad_term.ensures) c.if-bad_term.false

pub returns : goal.returns
returns c =
    let a = c.args in
    let l = c.loop-i in
    stops_last a.terms (term_fails a.n a.words.now a.numbers.now) l.i (omega arith) l.invariant
