-- SPDX-FileCopyrightText: 2026 The PPVM Authors
-- SPDX-License-Identifier: Apache-2.0

-- `pair::put_diagonal_term` meets its contract: nothing, or one term. Assumes nothing.
use mathlib.Core.Path.{refl}
use Rattle.model.specs.Between.{onto}
use Rattle.rules_by_scan.proofs.PairAdds.{diagonal_none, diagonal_one}
use Rattle.rule_terms.proofs.PutsLaws.{puts_nothing, puts_single}
use Rattle.rules_by_scan.proofs.pair.put_diagonal_term.Goals as goal

pub pauli_mul-product-requires : goal.pauli_mul-product-requires
pauli_mul-product-requires c = tt

pub phase_factor-unit-requires : goal.phase_factor-unit-requires
phase_factor-unit-requires c = tt

pub returns-then-sign : goal.returns-then-sign
returns-then-sign c =
    let a = c.args in
    let k = c.pauli_mul-product in
    let u = c.phase_factor-unit in
    puts_nothing a.room a.len a.lanes.now a.sums.now c.requires _ (diagonal_none a.p (onto a.c) k.result u.result k.ensures u.ensures c.if-sign.true)

pub real-requires : goal.real-requires
real-requires c = tt

pub mul-requires : goal.mul-requires
mul-requires c = tt

pub neg-z-requires : goal.neg-z-requires
neg-z-requires c = tt

pub put-requires : goal.put-requires
put-requires c = let h = c.requires in (h.lanes_long, h.sums_long, h.inside, h.rises)

pub returns : goal.returns
returns c =
    let a = c.args in
    let k = c.pauli_mul-product in
    let u = c.phase_factor-unit in
    let x = c.real in
    let y = c.mul in
    let z = c.neg-z in
    puts_single a.room a.len a.lanes.now a.sums.now c.requires _ _ _ _ _ _
    (diagonal_one a.p (onto a.c) k.result u.result k.ensures u.ensures c.if-sign.false x.result y.result z.result x.ensures y.ensures z.ensures) refl
    c.put.ensures
