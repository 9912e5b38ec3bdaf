-- SPDX-FileCopyrightText: 2026 The PPVM Authors
-- SPDX-License-Identifier: Apache-2.0

-- `pairs::store_pairs` meets its contract: after each turn the pairs so far are stored. Assumes nothing.
use mathlib.Core.Path.{sym, ◌∙◌}
use Rattle.number.specs.Floats.{cx}
use Rattle.sums.specs.Numbers.{complexes}
use Rattle.model_build.proofs.Parts.{length_complexes}
use Rattle.k_matrix.proofs.MatrixLaws.{row_below}
use Rattle.kossakowski.proofs.PairsLaws.{standing_room, store_skips, store_room, store_next, store_done}
use Rattle.kossakowski.proofs.pairs.store_pairs.Goals as goal

pub operator_range-requires-in-loop-p-2 : goal.operator_range-requires-in-loop-p-2
operator_range-requires-in-loop-p-2 c = (c.requires.2, row_below _ _ c.loop-p-test.true)

pub store_pair-place-requires : goal.store_pair-place-requires
store_pair-place-requires c =
    let a = c.args in
    let l = c.loop-p in (
      standing_room a.counts.now a.words.now a.sums.now c.requires.1 l.words l.sums l.invariant.standing l.p _ _ c.loop-p-test.true c.operator_range.ensures c.operator_range-in-loop-p.ensures,
      store_room a.from a.first a.at (complexes a.k.now) a.counts.now a.words.now a.sums.now a.jumps.now a.rates.now a.t_words.now a.t_numbers.now (length_complexes _ _ c.requires.0.entries_all) c.requires.1 c.requires.3
          l.words l.sums l.jumps l.rates l.t_words l.t_numbers l.place l.j l.p l.invariant
          c.loop-p-test.true (sym c.makes_pair.ensures ∙ c.if-not-makes_pair.false) (cx c.complex_at.result) c.complex_at.ensures _ _ _ _ c.operator_range.ensures c.operator_range-in-loop-p.ensures c.operator_range-in-loop-p-2.ensures c.operator_range-in-loop-p-3.ensures,
    )

pub loop-p-preserved : goal.loop-p-preserved
loop-p-preserved c =
    let a = c.args in
    let l = c.loop-p in
    let r = c.store_pair-place in
    store_next a.from a.first a.at (complexes a.k.now) a.counts.now a.words.now a.sums.now a.jumps.now a.rates.now a.t_words.now a.t_numbers.now (length_complexes _ _ c.requires.0.entries_all) c.requires.1 c.requires.3
    l.words l.sums l.jumps l.rates l.t_words l.t_numbers l.place l.j l.p l.invariant
    c.loop-p-test.true (sym c.makes_pair.ensures ∙ c.if-not-makes_pair.false) (cx c.complex_at.result) c.complex_at.ensures _ _ _ _ c.operator_range.ensures c.operator_range-in-loop-p.ensures c.operator_range-in-loop-p-2.ensures c.operator_range-in-loop-p-3.ensures
    _ _ r.result _ _ _ _ r.ensures.0 r.ensures.1 r.auto.words r.auto.sums
    r.auto.jumps r.auto.rates r.auto.t_words r.auto.t_numbers

pub loop-p-preserved-then-not-makes_pair : goal.loop-p-preserved-then-not-makes_pair
loop-p-preserved-then-not-makes_pair c =
    let a = c.args in
    let l = c.loop-p in
    store_skips a.from a.first a.at (complexes a.k.now) a.counts.now a.words.now a.sums.now a.jumps.now a.rates.now a.t_words.now a.t_numbers.now (length_complexes _ _ c.requires.0.entries_all) c.requires.1 c.requires.3
    l.words l.sums l.jumps l.rates l.t_words l.t_numbers l.place l.j l.p l.invariant c.loop-p-test.true (sym c.makes_pair.ensures ∙ c.if-not-makes_pair.true)

pub returns : goal.returns
returns c =
    let a = c.args in
    let l = c.loop-p in
    store_done a.from a.first a.at (complexes a.k.now) a.counts.now a.words.now a.sums.now a.jumps.now a.rates.now a.t_words.now a.t_numbers.now (length_complexes _ _ c.requires.0.entries_all) c.requires.1 c.requires.3
    l.words l.sums l.jumps l.rates l.t_words l.t_numbers l.place l.j l.p l.invariant c.loop-p-test.false
