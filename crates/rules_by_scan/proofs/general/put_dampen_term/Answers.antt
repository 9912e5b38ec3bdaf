-- SPDX-FileCopyrightText: 2026 The PPVM Authors
-- SPDX-License-Identifier: Apache-2.0

-- `general::put_dampen_term` meets its contract: nothing, or one term. Assumes nothing.
use Rattle.model.specs.Between.{onto}
use Rattle.rules_by_scan.proofs.GeneralLaws.{dampen_none, dampen_one, dampen_number}
use Rattle.rule_terms.proofs.PutsLaws.{puts_nothing, puts_single}
use Rattle.rules_by_scan.proofs.general.put_dampen_term.Goals as goal

pub pauli_mul-product-requires : goal.pauli_mul-product-requires
pauli_mul-product-requires c = tt

pub returns-then-phase-eq1 : goal.returns-then-phase-eq1
returns-then-phase-eq1 c =
    let a = c.args in
    puts_nothing a.room a.len a.lanes.now a.sums.now c.requires _ (dampen_none a.p a.rate (onto a.c) c.pauli_mul-product.result c.pauli_mul-product.ensures c.if-phase-eq1.true)

pub neg-requires : goal.neg-requires
neg-requires c = tt

pub real-requires : goal.real-requires
real-requires c = tt

pub mul-z-requires : goal.mul-z-requires
mul-z-requires c = tt

pub sign_of-requires : goal.sign_of-requires
sign_of-requires c = tt

pub real-requires-2 : goal.real-requires-2
real-requires-2 c = tt

pub mul-requires : goal.mul-requires
mul-requires c = tt

pub put_at-requires : goal.put_at-requires
put_at-requires c = let h = c.requires in (h.lanes_long, h.sums_long, h.inside, h.rises)

pub returns : goal.returns
returns c =
    let a = c.args in
    puts_single a.room a.len a.lanes.now a.sums.now c.requires _ _ _ _ _ _ (dampen_one a.p a.rate (onto a.c) c.pauli_mul-product.result c.pauli_mul-product.ensures c.if-phase-eq1.false)
    (dampen_number a.p a.rate (onto a.c) c.pauli_mul-product.result c.pauli_mul-product.ensures c.sign_of.result c.neg.result c.real.result c.mul-z.result c.real-2.result c.mul.result
    c.sign_of.ensures c.neg.ensures c.real.ensures c.mul-z.ensures c.real-2.ensures c.mul.ensures)
    c.put_at.ensures
