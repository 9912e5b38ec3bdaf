-- SPDX-FileCopyrightText: 2026 The PPVM Authors
-- SPDX-License-Identifier: Apache-2.0

-- `terms::sandwich_term` meets its contract. Assumes nothing.
use mathlib.Core.Path.{ap}
use Rattle.word.specs.declared.algebra.Phased.{Phased}
use Rattle.word.proofs.WordLaws.{phase_lt}
use Rattle.rule_terms.proofs.MadeLaws.{sandwich_made}
use native.Mathlib.Omega.{arith}
use Rattle.rule_terms.proofs.terms.sandwich_term.Goals as goal

pub overflow_add-left : goal.overflow_add-left
overflow_add-left c =
    let a = c.args in
    let e = ap (λ (q : Phased). q.phase) c.pauli_mul-whole.ensures in
    omega (arith, c.requires, e, phase_lt a.left.word a.b.word)

pub returns : goal.returns
returns c =
    let a = c.args in
    sandwich_made a.a a.b a.left a.rate c.pauli_mul-whole.result c.conj.result c.mul-bare.result c.phase_factor.result c.mul-turned.result c.real.result c.mul.result
    c.pauli_mul-whole.ensures c.conj.ensures c.mul-bare.ensures c.phase_factor.ensures c.mul-turned.ensures c.real.ensures c.mul.ensures
