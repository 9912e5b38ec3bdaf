-- SPDX-FileCopyrightText: 2026 The PPVM Authors
-- SPDX-License-Identifier: Apache-2.0

-- `pairs::put_pairs` meets its contract: after each turn what the pairs so far add is put. Assumes nothing.
use mathlib.Core.Path.{refl, ap, ◌∙◌}
use Prim.Native.Nat.{ℕ}
use Rattle.model.specs.Stored.{jump_at}
use Rattle.model.specs.Tested.{bad_jump}
use Rattle.rule_terms.specs.Adds.{pair_adds}
use Rattle.rule_terms.proofs.PutsLaws.{puts_same}
use Rattle.rules_by_scan.proofs.ItemLaws.{of_terms, each_start, each_room, each_next, each_full, each_done, jumps_each}
use Rattle.rules_by_scan.proofs.PairItems.{pair_same}
use Rattle.word.specs.Count.{up_to}
use Rattle.rules_by_scan.proofs.pairs.put_pairs.Goals as goal

pub loop-j-init : goal.loop-j-init
loop-j-init c =
    let a = c.args in
    each_start (λ (k : ℕ). pair_adds a.p (of_terms a.t_words.now a.t_numbers.now) (jump_at a.jumps.now a.rates.now k)) a.count a.room a.len a.lanes.now a.sums.now c.requires.0

pub put_pair_entry-added-requires : goal.put_pair_entry-added-requires
put_pair_entry-added-requires c =
    let a = c.args in
    let l = c.loop-j in
    (each_room (λ (k : ℕ). pair_adds a.p (of_terms a.t_words.now a.t_numbers.now) (jump_at a.jumps.now a.rates.now k)) a.count a.room a.len a.lanes.now a.sums.now c.requires.0 l.lanes l.sums l.held l.j l.invariant, ap (bad_jump a.places) c.jump_at-jump.ensures ∙ c.requires.5 l.j c.loop-j-test.true, c.requires.3, c.requires.4)

pub returns-in_default : goal.returns-in_default
returns-in_default c = λ t ew en.
    let a = c.args in
    let l = c.loop-j in
    puts_same a.room a.len a.lanes.now a.sums.now c.requires.0 _ _ _ _ _ (jumps_each (pair_adds a.p (of_terms a.t_words.now a.t_numbers.now)) (pair_adds a.p t) (pair_same a.p t a.t_words.now a.t_numbers.now ew en) a.jumps.now a.rates.now (up_to 0 a.count))
    (each_full (λ (k : ℕ). pair_adds a.p (of_terms a.t_words.now a.t_numbers.now) (jump_at a.jumps.now a.rates.now k)) a.count a.room a.len a.lanes.now a.sums.now c.requires.0 l.lanes l.sums l.held l.j l.invariant c.loop-j-test.true
    _ (ap (pair_adds a.p (of_terms a.t_words.now a.t_numbers.now)) c.jump_at-jump.ensures) _ _ c.put_pair_entry-added.result (c.put_pair_entry-added.ensures (of_terms a.t_words.now a.t_numbers.now) refl refl) c.in_default.is)

pub loop-j-preserved : goal.loop-j-preserved
loop-j-preserved c =
    let a = c.args in
    let l = c.loop-j in
    each_next (λ (k : ℕ). pair_adds a.p (of_terms a.t_words.now a.t_numbers.now) (jump_at a.jumps.now a.rates.now k)) a.count a.room a.len a.lanes.now a.sums.now c.requires.0 l.lanes l.sums l.held l.j l.invariant c.loop-j-test.true
    _ (ap (pair_adds a.p (of_terms a.t_words.now a.t_numbers.now)) c.jump_at-jump.ensures) _ _ c.put_pair_entry-added.result (c.put_pair_entry-added.ensures (of_terms a.t_words.now a.t_numbers.now) refl refl) _ c.in-Some.is c.put_pair_entry-added.auto.lanes c.put_pair_entry-added.auto.sums

pub returns : goal.returns
returns c = λ t ew en.
    let a = c.args in
    let l = c.loop-j in
    puts_same a.room a.len a.lanes.now a.sums.now c.requires.0 _ _ _ _ _ (jumps_each (pair_adds a.p (of_terms a.t_words.now a.t_numbers.now)) (pair_adds a.p t) (pair_same a.p t a.t_words.now a.t_numbers.now ew en) a.jumps.now a.rates.now (up_to 0 a.count))
    (each_done (λ (k : ℕ). pair_adds a.p (of_terms a.t_words.now a.t_numbers.now) (jump_at a.jumps.now a.rates.now k)) a.count a.room a.len a.lanes.now a.sums.now c.requires.0 l.lanes l.sums l.held l.j l.invariant c.loop-j-test.false)
