-- SPDX-FileCopyrightText: 2026 The PPVM Authors
-- SPDX-License-Identifier: Apache-2.0

-- `near::put_reals_near` meets its contract: after each turn what the Hamiltonian terms visited so far add is put. Assumes nothing.
use Prim.Native.Nat.{◌<◌}
use native.Mathlib.Omega.{arith}
use Rattle.index.specs.Visit.{flagged}
use Rattle.rule_terms.proofs.PutsLaws.{puts_same}
use Rattle.rules_by_scan.proofs.ItemLaws.{real_adds, real_word, reals_each}
use Rattle.rules_by_index.proofs.VisitLaws.{visit_start, visit_room, visit_done, visit_below, visit_less, visit_next, visit_full}
use Rattle.rules_by_index.proofs.near.put_reals_near.Goals as goal
use Rattle.rules_by_index.proofs.near.put_reals_near.Goals.{In-Some}

item_below : (c : In-Some) → c.in-Some.i < c.args.count
item_below c =
    let a = c.args in
    let l = c.loop-i in
    visit_below (real_adds a.h_words.now a.h_coeffs.now a.p) a.count a.room 0 a.row a.mask.now a.lanes.now a.sums.now c.requires.0 l.lanes l.sums l.held l.c l.invariant c.step-s.result c.step-s.ensures _ _ c.in-Some.is

pub start-c-requires : goal.start-c-requires
start-c-requires c = (c.requires.3, c.requires.4)

pub loop-i-init : goal.loop-i-init
loop-i-init c =
    let a = c.args in
    visit_start (real_adds a.h_words.now a.h_coeffs.now a.p) a.count a.room 0 a.row a.mask.now a.lanes.now a.sums.now c.requires.0 c.start-c.result c.start-c.ensures c.requires.6

pub step-s-requires : goal.step-s-requires
step-s-requires c = (c.requires.3, c.requires.5, c.loop-i.invariant.inside)

pub returns-in_default : goal.returns-in_default
returns-in_default c = λ t ew ec.
    let a = c.args in
    let l = c.loop-i in
    puts_same a.room 0 a.lanes.now a.sums.now c.requires.0 _ _ _ _ _ (reals_each t a.h_words.now a.h_coeffs.now a.p (flagged a.row a.mask.now 0) ew ec)
    (visit_done (real_adds a.h_words.now a.h_coeffs.now a.p) a.count a.room 0 a.row a.mask.now a.lanes.now a.sums.now c.requires.0 l.lanes l.sums l.held l.c l.invariant c.step-s.result c.step-s.ensures c.in_default.is)

pub word_at-h-requires : goal.word_at-h-requires
word_at-h-requires c = omega (arith, c.requires.1, item_below (goal.at.word_at-h-requires c).In-Some)

pub offset_bounds-h_coeffs-i : goal.offset_bounds-h_coeffs-i
offset_bounds-h_coeffs-i c = omega (arith, c.requires.2, item_below (goal.at.offset_bounds-h_coeffs-i c).In-Some)

pub bounds-h_coeffs-i : goal.bounds-h_coeffs-i
bounds-h_coeffs-i c = omega (arith, c.requires.2, item_below (goal.at.bounds-h_coeffs-i c).In-Some)

pub put_hamiltonian-added-requires : goal.put_hamiltonian-added-requires
put_hamiltonian-added-requires c =
    let a = c.args in
    let l = c.loop-i in
    visit_room (real_adds a.h_words.now a.h_coeffs.now a.p) a.count a.room 0 a.row a.mask.now a.lanes.now a.sums.now c.requires.0 l.lanes l.sums l.held l.c l.invariant

pub returns-in_default-added : goal.returns-in_default-added
returns-in_default-added c = λ t ew ec.
    let a = c.args in
    let l = c.loop-i in
    puts_same a.room 0 a.lanes.now a.sums.now c.requires.0 _ _ _ _ _ (reals_each t a.h_words.now a.h_coeffs.now a.p (flagged a.row a.mask.now 0) ew ec)
    (visit_full (real_adds a.h_words.now a.h_coeffs.now a.p) a.count a.room 0 a.row a.mask.now a.lanes.now a.sums.now c.requires.0 l.lanes l.sums l.held l.c l.invariant c.step-s.result c.step-s.ensures _ _ c.in-Some.is
    _ (real_word a.h_words.now a.h_coeffs.now a.p _ c.word_at-h.result c.word_at-h.ensures) _ _ c.put_hamiltonian-added.result c.put_hamiltonian-added.ensures c.in_default-added.is)

pub loop-i-smaller : goal.loop-i-smaller
loop-i-smaller c =
    let a = c.args in
    let l = c.loop-i in
    visit_less (real_adds a.h_words.now a.h_coeffs.now a.p) a.count a.room 0 a.row a.mask.now a.lanes.now a.sums.now c.requires.0 l.lanes l.sums l.held l.c l.invariant c.step-s.result c.step-s.ensures _ _ c.in-Some.is

pub loop-i-preserved : goal.loop-i-preserved
loop-i-preserved c =
    let a = c.args in
    let l = c.loop-i in
    visit_next (real_adds a.h_words.now a.h_coeffs.now a.p) a.count a.room 0 a.row a.mask.now a.lanes.now a.sums.now c.requires.0 l.lanes l.sums l.held l.c l.invariant c.step-s.result c.step-s.ensures _ _ c.in-Some.is
    _ (real_word a.h_words.now a.h_coeffs.now a.p _ c.word_at-h.result c.word_at-h.ensures) _ _ c.put_hamiltonian-added.result c.put_hamiltonian-added.ensures _ c.in-Some-added.is c.put_hamiltonian-added.auto.lanes c.put_hamiltonian-added.auto.sums
