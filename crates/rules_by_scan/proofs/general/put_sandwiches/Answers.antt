-- SPDX-FileCopyrightText: 2026 The PPVM Authors
-- SPDX-License-Identifier: Apache-2.0

-- `general::put_sandwiches` meets its contract: after each turn the rows so far are put. Assumes nothing.
use mathlib.Core.Path.{ap}
use mathlib.Core.List.{map}
use Rattle.model.specs.Terms.{Term, terms_of}
use Rattle.rule_terms.specs.Adds.{sandwich}
use Rattle.rule_terms.proofs.PutsLaws.{puts_same}
use Rattle.rules_by_scan.proofs.GatherLaws.{gather_start, gather_room, gather_next, gather_full, gather_done, pairs_gathered}
use Rattle.rules_by_scan.proofs.general.put_sandwiches.Goals as goal

pub loop-i-init : goal.loop-i-init
loop-i-init c = let a = c.args in gather_start (λ (b : Term). map (sandwich a.p a.rate b) (terms_of a.words.now a.numbers.now a.range)) a.range a.room a.len a.words.now a.numbers.now a.lanes.now a.sums.now c.requires.0 c.requires.1

pub put_sandwich_row-added-requires : goal.put_sandwich_row-added-requires
put_sandwich_row-added-requires c =
    let a = c.args in
    let l = c.loop-i in
    (gather_room (λ (b : Term). map (sandwich a.p a.rate b) (terms_of a.words.now a.numbers.now a.range)) a.range a.room a.len a.words.now a.numbers.now a.lanes.now a.sums.now c.requires.0 c.requires.1 l.lanes l.sums l.count l.i l.invariant, c.requires.1)

pub returns-in_default : goal.returns-in_default
returns-in_default c =
    let a = c.args in
    let l = c.loop-i in
    puts_same a.room a.len a.lanes.now a.sums.now c.requires.0 _ _ _ _ _ (pairs_gathered (sandwich a.p a.rate) (terms_of a.words.now a.numbers.now a.range) (terms_of a.words.now a.numbers.now a.range))
    (gather_full (λ (b : Term). map (sandwich a.p a.rate b) (terms_of a.words.now a.numbers.now a.range)) a.range a.room a.len a.words.now a.numbers.now a.lanes.now a.sums.now c.requires.0 c.requires.1 l.lanes l.sums l.count l.i l.invariant c.loop-i-test.true
    _ (ap (λ (b : Term). map (sandwich a.p a.rate b) (terms_of a.words.now a.numbers.now a.range)) c.term_at-a.ensures) _ _ c.put_sandwich_row-added.result c.put_sandwich_row-added.ensures c.in_default.is)

pub loop-i-preserved : goal.loop-i-preserved
loop-i-preserved c =
    let a = c.args in
    let l = c.loop-i in
    gather_next (λ (b : Term). map (sandwich a.p a.rate b) (terms_of a.words.now a.numbers.now a.range)) a.range a.room a.len a.words.now a.numbers.now a.lanes.now a.sums.now c.requires.0 c.requires.1 l.lanes l.sums l.count l.i l.invariant c.loop-i-test.true
    _ (ap (λ (b : Term). map (sandwich a.p a.rate b) (terms_of a.words.now a.numbers.now a.range)) c.term_at-a.ensures) _ _ c.put_sandwich_row-added.result c.put_sandwich_row-added.ensures _ c.in-Some.is c.put_sandwich_row-added.auto.lanes c.put_sandwich_row-added.auto.sums

pub returns : goal.returns
returns c =
    let a = c.args in
    let l = c.loop-i in
    puts_same a.room a.len a.lanes.now a.sums.now c.requires.0 _ _ _ _ _ (pairs_gathered (sandwich a.p a.rate) (terms_of a.words.now a.numbers.now a.range) (terms_of a.words.now a.numbers.now a.range))
    (gather_done (λ (b : Term). map (sandwich a.p a.rate b) (terms_of a.words.now a.numbers.now a.range)) a.range a.room a.len a.words.now a.numbers.now a.lanes.now a.sums.now c.requires.0 c.requires.1 l.lanes l.sums l.count l.i l.invariant c.loop-i-test.false)
