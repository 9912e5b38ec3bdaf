-- SPDX-FileCopyrightText: 2026 The PPVM Authors
-- SPDX-License-Identifier: Apache-2.0

-- `items::put_reals` meets its contract: after each turn what the Hamiltonian terms so far add is put. Assumes nothing.
use Rattle.word.specs.Count.{up_to}
use Rattle.rule_terms.proofs.PutsLaws.{puts_same}
use Rattle.rules_by_scan.proofs.ItemLaws.{real_adds, each_start, each_room, each_next, each_full, each_done, real_word, reals_each}
use Rattle.rules_by_scan.proofs.items.put_reals.Goals as goal

pub loop-i-init : goal.loop-i-init
loop-i-init c =
    let a = c.args in
    each_start (real_adds a.h_words.now a.h_coeffs.now a.p) a.count a.room 0 a.lanes.now a.sums.now c.requires.0

pub put_hamiltonian-added-requires : goal.put_hamiltonian-added-requires
put_hamiltonian-added-requires c =
    let a = c.args in
    let l = c.loop-i in
    each_room (real_adds a.h_words.now a.h_coeffs.now a.p) a.count a.room 0 a.lanes.now a.sums.now c.requires.0 l.lanes l.sums l.held l.i l.invariant

pub returns-in_default : goal.returns-in_default
returns-in_default c = λ t ew ec.
    let a = c.args in
    let l = c.loop-i in
    puts_same a.room 0 a.lanes.now a.sums.now c.requires.0 _ _ _ _ _ (reals_each t a.h_words.now a.h_coeffs.now a.p (up_to 0 a.count) ew ec)
    (each_full (real_adds a.h_words.now a.h_coeffs.now a.p) a.count a.room 0 a.lanes.now a.sums.now c.requires.0 l.lanes l.sums l.held l.i l.invariant c.loop-i-test.true
    _ (real_word a.h_words.now a.h_coeffs.now a.p l.i c.word_at-h.result c.word_at-h.ensures) _ _ c.put_hamiltonian-added.result c.put_hamiltonian-added.ensures c.in_default.is)

pub loop-i-preserved : goal.loop-i-preserved
loop-i-preserved c =
    let a = c.args in
    let l = c.loop-i in
    each_next (real_adds a.h_words.now a.h_coeffs.now a.p) a.count a.room 0 a.lanes.now a.sums.now c.requires.0 l.lanes l.sums l.held l.i l.invariant c.loop-i-test.true
    _ (real_word a.h_words.now a.h_coeffs.now a.p l.i c.word_at-h.result c.word_at-h.ensures) _ _ c.put_hamiltonian-added.result c.put_hamiltonian-added.ensures _ c.in-Some.is c.put_hamiltonian-added.auto.lanes c.put_hamiltonian-added.auto.sums

pub returns : goal.returns
returns c = λ t ew ec.
    let a = c.args in
    let l = c.loop-i in
    puts_same a.room 0 a.lanes.now a.sums.now c.requires.0 _ _ _ _ _ (reals_each t a.h_words.now a.h_coeffs.now a.p (up_to 0 a.count) ew ec)
    (each_done (real_adds a.h_words.now a.h_coeffs.now a.p) a.count a.room 0 a.lanes.now a.sums.now c.requires.0 l.lanes l.sums l.held l.i l.invariant c.loop-i-test.false)
