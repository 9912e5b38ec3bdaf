-- SPDX-FileCopyrightText: 2026 The PPVM Authors
-- SPDX-License-Identifier: Apache-2.0

-- `near::put_pairs_near` meets its contract: after each turn what the pairs visited so far add is put. Assumes nothing.
use mathlib.Core.Path.{refl, ap, ◌∙◌}
use Prim.Native.Nat.{ℕ, ◌<◌}
use native.Mathlib.Omega.{arith}
use Rattle.index.specs.Visit.{flagged}
use Rattle.model.specs.Stored.{jump_at}
use Rattle.model.specs.Tested.{bad_jump}
use Rattle.rule_terms.specs.Adds.{pair_adds}
use Rattle.rule_terms.proofs.PutsLaws.{puts_same}
use Rattle.rules_by_scan.proofs.ItemLaws.{of_terms, jumps_each}
use Rattle.rules_by_scan.proofs.PairItems.{pair_same}
use Rattle.rules_by_index.proofs.VisitLaws.{visit_start, visit_room, visit_done, visit_below, visit_less, visit_next, visit_full}
use Rattle.rules_by_index.proofs.near.put_pairs_near.Goals as goal
use Rattle.rules_by_index.proofs.near.put_pairs_near.Goals.{In-Some}

item_below : (c : In-Some) → c.in-Some.j < c.args.count
item_below c =
    let a = c.args in
    let l = c.loop-j in
    visit_below (λ (k : ℕ). pair_adds a.p (of_terms a.t_words.now a.t_numbers.now) (jump_at a.jumps.now a.rates.now k)) a.count a.room a.len a.row a.mask.now a.lanes.now a.sums.now c.requires.0 l.lanes l.sums l.held l.c l.invariant c.step-s.result c.step-s.ensures _ _ c.in-Some.is

pub start-c-requires : goal.start-c-requires
start-c-requires c = (c.requires.6, c.requires.7)

pub loop-j-init : goal.loop-j-init
loop-j-init c =
    let a = c.args in
    visit_start (λ (k : ℕ). pair_adds a.p (of_terms a.t_words.now a.t_numbers.now) (jump_at a.jumps.now a.rates.now k)) a.count a.room a.len a.row a.mask.now a.lanes.now a.sums.now c.requires.0 c.start-c.result c.start-c.ensures c.requires.9

pub step-s-requires : goal.step-s-requires
step-s-requires c = (c.requires.6, c.requires.8, c.loop-j.invariant.inside)

pub returns-in_default : goal.returns-in_default
returns-in_default c = λ t ew en.
    let a = c.args in
    let l = c.loop-j in
    puts_same a.room a.len a.lanes.now a.sums.now c.requires.0 _ _ _ _ _ (jumps_each (pair_adds a.p (of_terms a.t_words.now a.t_numbers.now)) (pair_adds a.p t) (pair_same a.p t a.t_words.now a.t_numbers.now ew en) a.jumps.now a.rates.now (flagged a.row a.mask.now 0))
    (visit_done (λ (k : ℕ). pair_adds a.p (of_terms a.t_words.now a.t_numbers.now) (jump_at a.jumps.now a.rates.now k)) a.count a.room a.len a.row a.mask.now a.lanes.now a.sums.now c.requires.0 l.lanes l.sums l.held l.c l.invariant c.step-s.result c.step-s.ensures c.in_default.is)

pub jump_at-jump-requires : goal.jump_at-jump-requires
jump_at-jump-requires c = (omega (arith, c.requires.1, item_below (goal.at.jump_at-jump-requires c).In-Some), omega (arith, c.requires.2, item_below (goal.at.jump_at-jump-requires c).In-Some))

pub put_pair_entry-added-requires : goal.put_pair_entry-added-requires
put_pair_entry-added-requires c =
    let a = c.args in
    let l = c.loop-j in
    (visit_room (λ (k : ℕ). pair_adds a.p (of_terms a.t_words.now a.t_numbers.now) (jump_at a.jumps.now a.rates.now k)) a.count a.room a.len a.row a.mask.now a.lanes.now a.sums.now c.requires.0 l.lanes l.sums l.held l.c l.invariant, ap (bad_jump a.places) c.jump_at-jump.ensures ∙ c.requires.5 _ (item_below (goal.at.put_pair_entry-added-requires c).In-Some), c.requires.3, c.requires.4)

pub returns-in_default-added : goal.returns-in_default-added
returns-in_default-added c = λ t ew en.
    let a = c.args in
    let l = c.loop-j in
    puts_same a.room a.len a.lanes.now a.sums.now c.requires.0 _ _ _ _ _ (jumps_each (pair_adds a.p (of_terms a.t_words.now a.t_numbers.now)) (pair_adds a.p t) (pair_same a.p t a.t_words.now a.t_numbers.now ew en) a.jumps.now a.rates.now (flagged a.row a.mask.now 0))
    (visit_full (λ (k : ℕ). pair_adds a.p (of_terms a.t_words.now a.t_numbers.now) (jump_at a.jumps.now a.rates.now k)) a.count a.room a.len a.row a.mask.now a.lanes.now a.sums.now c.requires.0 l.lanes l.sums l.held l.c l.invariant c.step-s.result c.step-s.ensures _ _ c.in-Some.is
    _ (ap (pair_adds a.p (of_terms a.t_words.now a.t_numbers.now)) c.jump_at-jump.ensures) _ _ c.put_pair_entry-added.result (c.put_pair_entry-added.ensures (of_terms a.t_words.now a.t_numbers.now) refl refl) c.in_default-added.is)

pub loop-j-smaller : goal.loop-j-smaller
loop-j-smaller c =
    let a = c.args in
    let l = c.loop-j in
    visit_less (λ (k : ℕ). pair_adds a.p (of_terms a.t_words.now a.t_numbers.now) (jump_at a.jumps.now a.rates.now k)) a.count a.room a.len a.row a.mask.now a.lanes.now a.sums.now c.requires.0 l.lanes l.sums l.held l.c l.invariant c.step-s.result c.step-s.ensures _ _ c.in-Some.is

pub loop-j-preserved : goal.loop-j-preserved
loop-j-preserved c =
    let a = c.args in
    let l = c.loop-j in
    visit_next (λ (k : ℕ). pair_adds a.p (of_terms a.t_words.now a.t_numbers.now) (jump_at a.jumps.now a.rates.now k)) a.count a.room a.len a.row a.mask.now a.lanes.now a.sums.now c.requires.0 l.lanes l.sums l.held l.c l.invariant c.step-s.result c.step-s.ensures _ _ c.in-Some.is
    _ (ap (pair_adds a.p (of_terms a.t_words.now a.t_numbers.now)) c.jump_at-jump.ensures) _ _ c.put_pair_entry-added.result (c.put_pair_entry-added.ensures (of_terms a.t_words.now a.t_numbers.now) refl refl) _ c.in-Some-added.is c.put_pair_entry-added.auto.lanes c.put_pair_entry-added.auto.sums
