-- SPDX-FileCopyrightText: 2026 The PPVM Authors
-- SPDX-License-Identifier: Apache-2.0

-- `test::test_range` meets its contract: the terms from the start to before i pass. Assumes nothing.
use mathlib.Core.Path.{sym, ◌∙◌}
use Rattle.model.proofs.ModelTests.{number_at}
use Rattle.model.proofs.GivenTerms.{from_more, range_found, range_passed}
use native.Mathlib.Omega.{arith}
use Rattle.model.proofs.test.test_range.Goals as goal

pub returns-then-bad_given : goal.returns-then-bad_given
returns-then-bad_given c =
    let a = c.args in
    let l = c.loop-i in
    range_found a.numbers.now a.terms a.r l.i l.invariant _ c.smaller-end.ensures (omega arith) (omega arith)
    (sym (number_at a.numbers.now l.i c.bad_given.ensures) ∙ c.if-bad_given.true)

pub loop-i-preserved : goal.loop-i-preserved
loop-i-preserved c =
    let a = c.args in
    let l = c.loop-i in
    from_more a.numbers.now a.r.start l.i l.invariant (sym (number_at a.numbers.now l.i c.bad_given.ensures) ∙ c.if-bad_given.false)

pub returns : goal.returns
returns c =
    let a = c.args in
    let l = c.loop-i in
    range_passed a.numbers.now a.terms a.r l.i l.invariant _ c.smaller-end.ensures (omega arith)
