-- SPDX-FileCopyrightText: 2026 The PPVM Authors
-- SPDX-License-Identifier: Apache-2.0

-- `compile::store_jumps` meets its contract: laying the jumps that are left into the tables makes up the wanted tables. Assumes nothing.
use Rattle.model_build.proofs.JumpsLaws.{store_jumps_work, store_jumps_room, store_jumps_next, store_jumps_done, own_terms, own_texts, own_fits, own_reads}
use native.Mathlib.Omega.{arith}
use Rattle.model_build.proofs.compile.store_jumps.Goals as goal

pub slice_bounds-own-end : goal.slice_bounds-own-end
slice_bounds-own-end c =
    let a = c.args in
    let l = c.loop-j in
    let pre = c.requires in
    let h = c.loop-j-test.true in
    let s = l.invariant in
    omega (arith, own_terms a.counts.now a.lengths.now a.texts.now a.numbers.now pre.0 l.j l.t l.at s.stands h)

pub read_operator-requires : goal.read_operator-requires
read_operator-requires c =
    let a = c.args in
    let l = c.loop-j in
    let pre = c.requires in
    let h = c.loop-j-test.true in
    let s = l.invariant in
    (own_fits a.counts.now a.lengths.now a.texts.now a.numbers.now pre.0 l.j l.t l.at s.stands h, own_reads a.counts.now a.lengths.now a.texts.now a.numbers.now pre.0 l.j l.t l.at s.stands h l.words l.sums s.work)

pub store_operator-place-requires : goal.store_operator-place-requires
store_operator-place-requires c =
    let a = c.args in
    let l = c.loop-j in
    let pre = c.requires in
    let h = c.loop-j-test.true in
    let s = l.invariant in
    let r = c.read_operator in
    (store_jumps_work a.n_qubits a.counts.now a.lengths.now a.texts.now a.numbers.now a.given.now a.words.now a.sums.now a.jumps.now a.rates.now a.t_words.now a.t_numbers.now pre.0 pre.1 pre.2 pre.3 l.words l.sums l.jumps l.rates l.t_words l.t_numbers l.place l.at l.t l.j s h _ _ r.ensures r.auto.words r.auto.sums, store_jumps_room a.n_qubits a.counts.now a.lengths.now a.texts.now a.numbers.now a.given.now a.words.now a.sums.now a.jumps.now a.rates.now a.t_words.now a.t_numbers.now pre.0 pre.1 pre.2 pre.3 l.words l.sums l.jumps l.rates l.t_words l.t_numbers l.place l.at l.t l.j s h _ _ r.ensures r.auto.words r.auto.sums)

pub sum_of-at-requires : goal.sum_of-at-requires
sum_of-at-requires c =
    let a = c.args in
    let l = c.loop-j in
    let pre = c.requires in
    let h = c.loop-j-test.true in
    let s = l.invariant in
    omega (arith, own_texts a.counts.now a.lengths.now a.texts.now a.numbers.now pre.0 l.j l.t l.at s.stands h, c.well_formed.0.0)

pub overflow_add-at : goal.overflow_add-at
overflow_add-at c =
    let a = c.args in
    let l = c.loop-j in
    let pre = c.requires in
    let h = c.loop-j-test.true in
    let s = l.invariant in
    omega (arith, c.sum_of-at.ensures, own_texts a.counts.now a.lengths.now a.texts.now a.numbers.now pre.0 l.j l.t l.at s.stands h, c.well_formed.0.0)

pub loop-j-preserved : goal.loop-j-preserved
loop-j-preserved c =
    let a = c.args in
    let l = c.loop-j in
    let pre = c.requires in
    let h = c.loop-j-test.true in
    let s = l.invariant in
    let r = c.read_operator in
    let k = c.store_operator-place in
    store_jumps_next a.n_qubits a.counts.now a.lengths.now a.texts.now a.numbers.now a.given.now a.words.now a.sums.now a.jumps.now a.rates.now a.t_words.now a.t_numbers.now pre.0 pre.1 pre.2 pre.3 l.words l.sums l.jumps l.rates l.t_words l.t_numbers l.place l.at l.t l.j s h _ _ r.ensures r.auto.words r.auto.sums _ _ k.auto.words k.auto.sums k.result _ _ _ _ k.ensures k.auto.jumps k.auto.rates k.auto.t_words k.auto.t_numbers c.sum_of-at.result c.sum_of-at.ensures

pub returns : goal.returns
returns c =
    let a = c.args in
    let pre = c.requires in
    let l = c.loop-j in
    store_jumps_done a.n_qubits a.counts.now a.lengths.now a.texts.now a.numbers.now a.given.now a.words.now a.sums.now a.jumps.now a.rates.now a.t_words.now a.t_numbers.now pre.0 pre.1 pre.2 pre.3 l.words l.sums l.jumps l.rates l.t_words l.t_numbers l.place l.at l.t l.j l.invariant c.loop-j-test.false
