-- SPDX-FileCopyrightText: 2026 The PPVM Authors
-- SPDX-License-Identifier: Apache-2.0

-- `near::put_entries_near` meets its contract: after each turn what the jumps visited so far add is put, and a pair was met or what
-- is left has all pairs. Assumes nothing.
use mathlib.Core.Path.{refl, sym, ap, ◌∙◌}
use Prim.Native.Nat.{ℕ, ◌<◌}
use native.Mathlib.Omega.{arith}
use Rattle.index.specs.Visit.{flagged}
use Rattle.sums.proofs.Search.{rising_sorted}
use Rattle.model.specs.Stored.{jump_at}
use Rattle.model.specs.Tested.{bad_jump}
use Rattle.rule_terms.specs.Adds.{jump_adds, pair_adds}
use Rattle.rule_terms.proofs.PutsLaws.{puts_same, puts_full, puts_more}
use Rattle.rules_by_scan.proofs.ItemLaws.{of_terms, jump_same, jumps_each}
use Rattle.rules_by_index.proofs.NearLaws.{no_pair}
use Rattle.rules_by_index.proofs.VisitLaws.{visit_start, visit_room, visit_done, visit_below, visit_less, visit_next, visit_full, quiet_start, quiet_next, quiet_done}
use Rattle.rules_by_index.proofs.near.put_entries_near.Goals as goal
use Rattle.rules_by_index.proofs.near.put_entries_near.Goals.{In-Some}

item_below : (c : In-Some) → c.in-Some.j < c.args.count
item_below c =
    let a = c.args in
    let l = c.loop-j in
    visit_below (λ (k : ℕ). jump_adds a.p (of_terms a.t_words.now a.t_numbers.now) (jump_at a.jumps.now a.rates.now k)) a.count a.room a.len a.row a.mask.now a.lanes.now a.sums.now c.requires.0 l.lanes l.sums l.held l.c l.invariant.0 c.step-s.result c.step-s.ensures _ _ c.in-Some.is

pub start-c-requires : goal.start-c-requires
start-c-requires c = (c.requires.6, c.requires.7)

pub loop-j-init : goal.loop-j-init
loop-j-init c =
    let a = c.args in
    (visit_start (λ (k : ℕ). jump_adds a.p (of_terms a.t_words.now a.t_numbers.now) (jump_at a.jumps.now a.rates.now k)) a.count a.room a.len a.row a.mask.now a.lanes.now a.sums.now c.requires.0 c.start-c.result c.start-c.ensures c.requires.9, λ t. quiet_start (λ (k : ℕ). pair_adds a.p t (jump_at a.jumps.now a.rates.now k)) a.row a.mask.now c.start-c.result c.start-c.ensures.0)

pub step-s-requires : goal.step-s-requires
step-s-requires c = (c.requires.6, c.requires.8, c.loop-j.invariant.0.inside)

-- the room that is left at a turn
pub put_pairs_met-requires : goal.put_pairs_met-requires
put_pairs_met-requires c =
    let a = c.args in
    let l = c.loop-j in (
      visit_room (λ (k : ℕ). jump_adds a.p (of_terms a.t_words.now a.t_numbers.now) (jump_at a.jumps.now a.rates.now k)) a.count a.room a.len a.row a.mask.now a.lanes.now a.sums.now c.requires.0 l.lanes l.sums l.held l.c l.invariant.0,
      c.requires.1,
      c.requires.2,
      c.requires.3,
      c.requires.4,
      c.requires.5,
      c.requires.6,
      c.requires.7,
      c.requires.8,
      c.requires.9,
      λ e t. sym (jumps_each (pair_adds a.p t) (pair_adds a.p t) (λ j. refl) a.jumps.now a.rates.now (flagged a.row a.mask.now 0))
          ∙ quiet_done (λ (k : ℕ). pair_adds a.p t (jump_at a.jumps.now a.rates.now k)) a.row a.mask.now l.met l.c c.step-s.result c.step-s.ensures c.in_default.is (l.invariant.1 t) e,
    )

pub returns-in_default : goal.returns-in_default
returns-in_default c = λ t ew en.
    let a = c.args in
    let l = c.loop-j in
    puts_more a.room a.len a.lanes.now a.sums.now c.requires.0 l.lanes l.sums _ _ l.held _
    (puts_same a.room a.len a.lanes.now a.sums.now c.requires.0 _ _ _ _ _ (jumps_each (jump_adds a.p (of_terms a.t_words.now a.t_numbers.now)) (jump_adds a.p t) (jump_same a.p t a.t_words.now a.t_numbers.now ew en) a.jumps.now a.rates.now (flagged a.row a.mask.now 0))
    (visit_done (λ (k : ℕ). jump_adds a.p (of_terms a.t_words.now a.t_numbers.now) (jump_at a.jumps.now a.rates.now k)) a.count a.room a.len a.row a.mask.now a.lanes.now a.sums.now c.requires.0 l.lanes l.sums l.held l.c l.invariant.0 c.step-s.result c.step-s.ensures c.in_default.is)) refl
    _ _ _ (c.put_pairs_met.ensures t ew en)

pub jump_at-jump-requires : goal.jump_at-jump-requires
jump_at-jump-requires c = (omega (arith, c.requires.1, item_below (goal.at.jump_at-jump-requires c).In-Some), omega (arith, c.requires.2, item_below (goal.at.jump_at-jump-requires c).In-Some))

pub find_at-at-requires : goal.find_at-at-requires
find_at-at-requires c =
    let a = c.args in
    let l = c.loop-j in
    let k = visit_room (λ (k : ℕ). jump_adds a.p (of_terms a.t_words.now a.t_numbers.now) (jump_at a.jumps.now a.rates.now k)) a.count a.room a.len a.row a.mask.now a.lanes.now a.sums.now c.requires.0 l.lanes l.sums l.held l.c l.invariant.0 in
    (omega (arith, k.lanes_long, k.inside), rising_sorted l.held l.lanes l.sums (omega (arith, k.lanes_long, k.inside)) (omega (arith, k.sums_long, k.inside)) k.rises)

pub put_jump-added-requires : goal.put_jump-added-requires
put_jump-added-requires c =
    let a = c.args in
    let l = c.loop-j in
    (visit_room (λ (k : ℕ). jump_adds a.p (of_terms a.t_words.now a.t_numbers.now) (jump_at a.jumps.now a.rates.now k)) a.count a.room a.len a.row a.mask.now a.lanes.now a.sums.now c.requires.0 l.lanes l.sums l.held l.c l.invariant.0, ap (bad_jump a.places) c.jump_at-jump.ensures ∙ c.requires.5 _ (item_below (goal.at.put_jump-added-requires c).In-Some), c.requires.3, c.requires.4)

pub returns-in_default-added : goal.returns-in_default-added
returns-in_default-added c = λ t ew en.
    let a = c.args in
    let l = c.loop-j in
    puts_full a.room a.len a.lanes.now a.sums.now c.requires.0 _ _ _ _ _
    (puts_same a.room a.len a.lanes.now a.sums.now c.requires.0 _ _ _ _ _ (jumps_each (jump_adds a.p (of_terms a.t_words.now a.t_numbers.now)) (jump_adds a.p t) (jump_same a.p t a.t_words.now a.t_numbers.now ew en) a.jumps.now a.rates.now (flagged a.row a.mask.now 0))
    (visit_full (λ (k : ℕ). jump_adds a.p (of_terms a.t_words.now a.t_numbers.now) (jump_at a.jumps.now a.rates.now k)) a.count a.room a.len a.row a.mask.now a.lanes.now a.sums.now c.requires.0 l.lanes l.sums l.held l.c l.invariant.0 c.step-s.result c.step-s.ensures _ _ c.in-Some.is
    _ (ap (jump_adds a.p (of_terms a.t_words.now a.t_numbers.now)) c.jump_at-jump.ensures) _ _ c.put_jump-added.result (c.put_jump-added.ensures (of_terms a.t_words.now a.t_numbers.now) refl refl) c.in_default-added.is)) refl

pub loop-j-smaller : goal.loop-j-smaller
loop-j-smaller c =
    let a = c.args in
    let l = c.loop-j in
    visit_less (λ (k : ℕ). jump_adds a.p (of_terms a.t_words.now a.t_numbers.now) (jump_at a.jumps.now a.rates.now k)) a.count a.room a.len a.row a.mask.now a.lanes.now a.sums.now c.requires.0 l.lanes l.sums l.held l.c l.invariant.0 c.step-s.result c.step-s.ensures _ _ c.in-Some.is

pub loop-j-preserved : goal.loop-j-preserved
loop-j-preserved c =
    let a = c.args in
    let l = c.loop-j in (
      visit_next (λ (k : ℕ). jump_adds a.p (of_terms a.t_words.now a.t_numbers.now) (jump_at a.jumps.now a.rates.now k)) a.count a.room a.len a.row a.mask.now a.lanes.now a.sums.now c.requires.0 l.lanes l.sums l.held l.c l.invariant.0 c.step-s.result c.step-s.ensures _ _ c.in-Some.is
          _ (ap (jump_adds a.p (of_terms a.t_words.now a.t_numbers.now)) c.jump_at-jump.ensures) _ _ c.put_jump-added.result (c.put_jump-added.ensures (of_terms a.t_words.now a.t_numbers.now) refl refl) _ c.in-Some-added.is c.put_jump-added.auto.lanes c.put_jump-added.auto.sums,
      λ t. quiet_next (λ (k : ℕ). pair_adds a.p t (jump_at a.jumps.now a.rates.now k)) a.row a.mask.now l.met c.pair_met-met.result l.c c.step-s.result c.step-s.ensures _ _ c.in-Some.is (l.invariant.1 t)
          (λ e. let k = no_pair a.p t l.met c.jump_at-jump.result (sym c.pair_met-met.ensures ∙ e) in (k.0, ap (pair_adds a.p t) (sym c.jump_at-jump.ensures) ∙ k.1)),
    )
