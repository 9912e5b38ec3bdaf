-- SPDX-FileCopyrightText: 2026 The PPVM Authors
-- SPDX-License-Identifier: Apache-2.0

-- `pair::put_one_term` meets its contract: nothing, or one term. Assumes nothing.
use mathlib.Core.Path.{refl, sym, ◌∙◌}
use mathlib.Core.Bool.{Bool, cond}
use lib.Ieee.{Float, neg}
use Rattle.model.specs.Between.{onto}
use Rattle.rules_by_scan.proofs.PairAdds.{one_slight, one_none, one_one}
use Rattle.rule_terms.proofs.PutsLaws.{puts_nothing, puts_single}
use Rattle.rules_by_scan.proofs.pair.put_one_term.Goals as goal

abbrev plus : Bool → Float → Float
plus minus x = cond minus (neg x) x

pub slight-requires : goal.slight-requires
slight-requires c = tt

pub returns-then-slight : goal.returns-then-slight
returns-then-slight c =
    let a = c.args in
    puts_nothing a.room a.len a.lanes.now a.sums.now c.requires _ (one_slight a.p (onto a.c) (plus a.minus) (sym c.slight.ensures ∙ c.if-slight.true))

pub comm_product-k-requires : goal.comm_product-k-requires
comm_product-k-requires c = tt

pub returns-then-k : goal.returns-then-k
returns-then-k c =
    let a = c.args in
    let k = c.comm_product-k in
    puts_nothing a.room a.len a.lanes.now a.sums.now c.requires _
    (one_none a.p (onto a.c) (plus a.minus) (sym c.slight.ensures ∙ c.if-slight.false) k.result k.ensures c.if-k.true)

pub turned-y-requires : goal.turned-y-requires
turned-y-requires c = tt

pub real-requires : goal.real-requires
real-requires c = tt

pub put-requires : goal.put-requires
put-requires c = let h = c.requires in (h.lanes_long, h.sums_long, h.inside, h.rises)

pub returns : goal.returns
returns c =
    let a = c.args in
    let k = c.comm_product-k in
    let y = c.turned-y in
    let z = c.real in
    puts_single a.room a.len a.lanes.now a.sums.now c.requires _ _ _ _ _ _
    (one_one a.p (onto a.c) (plus a.minus) (sym c.slight.ensures ∙ c.if-slight.false) k.result k.ensures c.if-k.false y.result z.result y.ensures z.ensures) refl
    c.put.ensures
