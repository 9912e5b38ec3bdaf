-- SPDX-FileCopyrightText: 2026 The PPVM Authors
-- SPDX-License-Identifier: Apache-2.0

-- `product::precompute_adag_b` meets its contract: after each turn the sums have the products of the terms so far. Assumes nothing.
use Rattle.model.specs.Between.{onto}
use Rattle.operator_product.proofs.WorkLaws.{pair_start, pair_room, pair_next}
use Rattle.operator_product.proofs.product.precompute_adag_b.Goals as goal

pub loop-i-init : goal.loop-i-init
loop-i-init c = let a = c.args in pair_start a.left a.right a.words.now a.numbers.now c.requires

pub put_row-count-requires : goal.put_row-count-requires
put_row-count-requires c =
    let a = c.args in
    let l = c.loop-i in
    pair_room a.left a.right a.words.now a.numbers.now c.requires l.words l.numbers l.count l.i l.invariant c.loop-i-test.true

pub loop-i-preserved : goal.loop-i-preserved
loop-i-preserved c =
    let a = c.args in
    let l = c.loop-i in
    let p = c.put_row-count in
    pair_next a.left a.right a.words.now a.numbers.now c.requires l.words l.numbers l.count l.i l.invariant c.loop-i-test.true
    (onto c.term_at-a.result) p.result _ _ c.term_at-a.ensures p.ensures p.auto.words p.auto.numbers
