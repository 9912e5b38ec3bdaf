-- SPDX-FileCopyrightText: 2026 The PPVM Authors
-- SPDX-License-Identifier: Apache-2.0

-- `pairs::count_terms` meets its contract: after each turn the terms of the pairs so far are counted. Assumes nothing.
use mathlib.Core.Path.{sym, ◌∙◌}
use Rattle.sums.specs.Numbers.{complexes}
use Rattle.k_matrix.proofs.MatrixLaws.{places_few}
use Rattle.kossakowski.proofs.PairsLaws.{standing_room, count_skips, count_next, count_done}
use native.Mathlib.Omega.{arith}
use Rattle.kossakowski.proofs.pairs.count_terms.Goals as goal

pub count_pair-kept-requires : goal.count_pair-kept-requires
count_pair-kept-requires c =
    let a = c.args in
    let l = c.loop-p in
    standing_room a.counts.now a.words.now a.sums.now c.requires.1 l.words l.sums l.invariant.standing l.p _ _ c.loop-p-test.true c.operator_range-left.ensures c.operator_range-right.ensures

pub loop-p-preserved : goal.loop-p-preserved
loop-p-preserved c =
    let a = c.args in
    let l = c.loop-p in
    let r = c.count_pair-kept in
    count_next (complexes a.k.now) a.counts.now a.words.now a.sums.now c.requires.1 l.words l.sums l.kept l.p l.invariant
    _ _ _ _ r.result c.loop-p-test.true (sym c.makes_pair.ensures ∙ c.if-not-makes_pair.false) c.operator_range-left.ensures c.operator_range-right.ensures r.ensures.0 r.ensures.1 r.auto.words r.auto.sums

pub loop-p-preserved-then-not-makes_pair : goal.loop-p-preserved-then-not-makes_pair
loop-p-preserved-then-not-makes_pair c =
    let a = c.args in
    let l = c.loop-p in
    count_skips (complexes a.k.now) a.counts.now a.words.now a.sums.now c.requires.1 l.words l.sums l.kept l.p l.invariant c.loop-p-test.true (sym c.makes_pair.ensures ∙ c.if-not-makes_pair.true)

pub returns : goal.returns
returns c =
    let a = c.args in
    let l = c.loop-p in (
      count_done (complexes a.k.now) a.counts.now a.words.now a.sums.now c.requires.1 l.words l.sums l.kept l.p l.invariant c.loop-p-test.false,
      omega (arith, l.invariant.few, l.invariant.high, places_few _ c.requires.0.few),
      l.invariant.standing.stays,
    )
