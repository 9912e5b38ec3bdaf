-- SPDX-FileCopyrightText: 2026 The PPVM Authors
-- SPDX-License-Identifier: Apache-2.0

-- `terms::factor_term` meets its contract. Assumes nothing.
use mathlib.Core.Path.{sym, ap, ◌∙◌}
use mathlib.Core.Bool.{Bool, cond}
use Rattle.word.specs.declared.algebra.Phased.{Phased}
use Rattle.word.proofs.WordLaws.{phase_lt}
use Rattle.model.specs.Between.{onto}
use Rattle.rule_terms.specs.Adds.{folded, doubled}
use Rattle.rule_terms.proofs.MadeLaws.{folded_is, doubled_is}
use native.Mathlib.Omega.{arith}
use Rattle.rule_terms.proofs.terms.factor_term.Goals as goal

pub overflow_add-turns : goal.overflow_add-turns
overflow_add-turns c =
    let a = c.args in
    let e = ap (λ (r : Phased). r.phase) c.pauli_mul-product.ensures in
    omega (arith, c.requires, e, phase_lt a.ap.word a.f.word)

pub returns-then-double : goal.returns-then-double
returns-then-double c =
    let a = c.args in
    let k = c.pauli_mul-product in
    let u = c.phase_factor in
    let z = c.mul-z in
    λ w p h.
    doubled_is w p a.ap (onto a.f) k.result u.result z.result k.ensures u.ensures z.ensures h c.real.result c.real.ensures
    ∙ ap (λ (b : Bool). cond b (doubled p) (folded p) w (onto a.f)) (sym c.if-double.true)

pub returns : goal.returns
returns c =
    let a = c.args in
    let k = c.pauli_mul-product in
    let u = c.phase_factor in
    let z = c.mul-z in
    λ w p h.
    folded_is w p a.ap (onto a.f) k.result u.result z.result k.ensures u.ensures z.ensures h
    ∙ ap (λ (b : Bool). cond b (doubled p) (folded p) w (onto a.f)) (sym c.if-double.false)
