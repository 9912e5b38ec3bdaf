-- SPDX-FileCopyrightText: 2026 The PPVM Authors
-- SPDX-License-Identifier: Apache-2.0

-- `product::put_row` meets its contract: after each turn the sums have the products so far. Assumes nothing.
use mathlib.Core.Path.{ap, ◌∙◌}
use Rattle.operator_product.specs.Product.{formed_term}
use Rattle.operator_product.proofs.WorkLaws.{run_start, run_room, run_next, run_done}
use Rattle.model.specs.Between.{onto}
use Rattle.operator_product.proofs.product.put_row.Goals as goal

pub loop-j-init : goal.loop-j-init
loop-j-init c = let a = c.args in run_start (formed_term (onto a.a)) a.len a.start a.end a.words.now a.numbers.now c.requires

pub put_sum-count-requires : goal.put_sum-count-requires
put_sum-count-requires c =
    let a = c.args in
    let l = c.loop-j in
    run_room (formed_term (onto a.a)) a.len a.start a.end a.words.now a.numbers.now c.requires l.words l.numbers l.count l.j l.invariant c.loop-j-test.true

pub loop-j-preserved : goal.loop-j-preserved
loop-j-preserved c =
    let a = c.args in
    let l = c.loop-j in
    let p = c.put_sum-count in
    run_next (formed_term (onto a.a)) a.len a.start a.end a.words.now a.numbers.now c.requires l.words l.numbers l.count l.j l.invariant c.loop-j-test.true
    (onto c.formed_term-t.result) p.result _ _ (c.formed_term-t.ensures ∙ ap (formed_term (onto a.a)) c.term_at-b.ensures) p.ensures p.auto.words p.auto.numbers

pub returns : goal.returns
returns c =
    let a = c.args in
    let l = c.loop-j in
    run_done (formed_term (onto a.a)) a.len a.start a.end a.words.now a.numbers.now c.requires l.words l.numbers l.count l.j l.invariant c.loop-j-test.false
