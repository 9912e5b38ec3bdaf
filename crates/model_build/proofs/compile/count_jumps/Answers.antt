-- SPDX-FileCopyrightText: 2026 The PPVM Authors
-- SPDX-License-Identifier: Apache-2.0

-- `compile::count_jumps` meets its contract: the terms so far and those of the jumps that are left are all terms. Assumes nothing.
use Rattle.model_build.proofs.JumpsLaws.{count_next, count_done, own_terms, own_texts, own_fits, own_reads}
use native.Mathlib.Omega.{arith}
use Rattle.model_build.proofs.compile.count_jumps.Goals as goal

pub slice_bounds-own-end : goal.slice_bounds-own-end
slice_bounds-own-end c =
    let a = c.args in
    let l = c.loop-count in
    let fit = c.requires.0 in
    let h = c.loop-count-test.true in
    let s = l.invariant in
    omega (arith, own_terms a.counts.now a.lengths.now a.texts.now a.numbers.now fit l.count-index l.t l.at s.stands h)

pub read_operator-requires : goal.read_operator-requires
read_operator-requires c =
    let a = c.args in
    let l = c.loop-count in
    let fit = c.requires.0 in
    let h = c.loop-count-test.true in
    let s = l.invariant in
    (own_fits a.counts.now a.lengths.now a.texts.now a.numbers.now fit l.count-index l.t l.at s.stands h, own_reads a.counts.now a.lengths.now a.texts.now a.numbers.now fit l.count-index l.t l.at s.stands h l.words l.sums s.work)

pub sum_of-at-requires : goal.sum_of-at-requires
sum_of-at-requires c =
    let a = c.args in
    let l = c.loop-count in
    let fit = c.requires.0 in
    let h = c.loop-count-test.true in
    let s = l.invariant in
    omega (arith, own_texts a.counts.now a.lengths.now a.texts.now a.numbers.now fit l.count-index l.t l.at s.stands h)

pub overflow_add-at : goal.overflow_add-at
overflow_add-at c =
    let a = c.args in
    let l = c.loop-count in
    let fit = c.requires.0 in
    let h = c.loop-count-test.true in
    let s = l.invariant in
    omega (arith, c.sum_of-at.ensures, own_texts a.counts.now a.lengths.now a.texts.now a.numbers.now fit l.count-index l.t l.at s.stands h)

pub loop-count-preserved : goal.loop-count-preserved
loop-count-preserved c =
    let a = c.args in
    let l = c.loop-count in
    let fit = c.requires.0 in
    let h = c.loop-count-test.true in
    let s = l.invariant in
    let r = c.read_operator in
    let k = c.count_operator-kept in
    let w = c.requires.1 in
    count_next a.n_qubits a.counts.now a.lengths.now a.texts.now a.numbers.now a.words.now a.sums.now fit w l.words l.sums l.kept l.at l.t l.count-index s h _ _ _ _ r.ensures r.auto.words r.auto.sums k.result k.ensures.0 k.ensures.1 k.auto.words k.auto.sums c.sum_of-at.result c.sum_of-at.ensures

pub returns : goal.returns
returns c =
    let a = c.args in
    let l = c.loop-count in
    count_done a.n_qubits a.counts.now a.lengths.now a.texts.now a.numbers.now a.words.now a.sums.now c.requires.0 c.requires.1 l.words l.sums l.kept l.at l.t l.count-index l.invariant c.loop-count-test.false
