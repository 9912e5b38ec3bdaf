-- SPDX-FileCopyrightText: 2026 The PPVM Authors
-- SPDX-License-Identifier: Apache-2.0

-- `test::test_pauli` meets its contract. Assumes nothing.
use mathlib.Core.Path.{sym, ◌∙◌}
use Rattle.model.proofs.ModelTests.{number_at}
use Rattle.model.proofs.GivenTerms.{pauli_outside, pauli_found, pauli_passed}
use Rattle.model.proofs.test.test_pauli.Goals as goal

pub returns-then-terms-term : goal.returns-then-terms-term
returns-then-terms-term c = let a = c.args in pauli_outside a.numbers.now a.terms a.rate a.term c.if-terms-term.true

pub returns-then-bad_given : goal.returns-then-bad_given
returns-then-bad_given c =
    let a = c.args in
    pauli_found a.numbers.now a.terms a.rate a.term c.if-terms-term.false (sym (number_at a.numbers.now a.term c.bad_given.ensures) ∙ c.if-bad_given.true)

pub returns : goal.returns
returns c =
    let a = c.args in
    pauli_passed a.numbers.now a.terms a.rate a.term (sym (number_at a.numbers.now a.term c.bad_given.ensures) ∙ c.if-bad_given.false)
