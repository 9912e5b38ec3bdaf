-- SPDX-FileCopyrightText: 2026 The PPVM Authors
-- SPDX-License-Identifier: Apache-2.0

-- `pair::put_both_term` meets its contract: nothing, or one term. Assumes nothing.
use mathlib.Core.Path.{refl, sym, ◌∙◌}
use Rattle.model.specs.Between.{onto}
use Rattle.rules_by_scan.proofs.PairAdds.{both_slight, both_none, both_one}
use Rattle.rule_terms.proofs.PutsLaws.{puts_nothing, puts_single}
use Rattle.rules_by_scan.proofs.pair.put_both_term.Goals as goal

pub slight-requires : goal.slight-requires
slight-requires c = tt

pub returns-then-slight : goal.returns-then-slight
returns-then-slight c =
    let a = c.args in
    puts_nothing a.room a.len a.lanes.now a.sums.now c.requires _ (both_slight a.p (onto a.c) (sym c.slight.ensures ∙ c.if-slight.true))

pub pauli_mul-product-requires : goal.pauli_mul-product-requires
pauli_mul-product-requires c = tt

pub phase_factor-unit-requires : goal.phase_factor-unit-requires
phase_factor-unit-requires c = tt

pub returns-then-sign : goal.returns-then-sign
returns-then-sign c =
    let a = c.args in
    let k = c.pauli_mul-product in
    let u = c.phase_factor-unit in
    puts_nothing a.room a.len a.lanes.now a.sums.now c.requires _
    (both_none a.p (onto a.c) k.result u.result k.ensures u.ensures (sym c.slight.ensures ∙ c.if-slight.false) c.if-sign.true)

pub real-requires : goal.real-requires
real-requires c = tt

pub put-requires : goal.put-requires
put-requires c = let h = c.requires in (h.lanes_long, h.sums_long, h.inside, h.rises)

pub returns : goal.returns
returns c =
    let a = c.args in
    let k = c.pauli_mul-product in
    let u = c.phase_factor-unit in
    let z = c.real in
    puts_single a.room a.len a.lanes.now a.sums.now c.requires _ _ _ _ _ _
    (both_one a.p (onto a.c) k.result u.result k.ensures u.ensures (sym c.slight.ensures ∙ c.if-slight.false) c.if-sign.false z.result z.ensures) refl
    c.put.ensures
