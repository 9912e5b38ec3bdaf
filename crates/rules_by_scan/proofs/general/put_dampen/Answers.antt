-- SPDX-FileCopyrightText: 2026 The PPVM Authors
-- SPDX-License-Identifier: Apache-2.0

-- `general::put_dampen` meets its contract: after each turn what the terms so far add is put. Assumes nothing.
use mathlib.Core.Path.{ap}
use Rattle.rule_terms.specs.Adds.{dampen}
use Rattle.rules_by_scan.proofs.GatherLaws.{gather_start, gather_room, gather_next, gather_full}
use Rattle.rules_by_scan.proofs.general.put_dampen.Goals as goal

pub loop-i-init : goal.loop-i-init
loop-i-init c = let a = c.args in gather_start (dampen a.p a.rate) a.range a.room a.len a.words.now a.numbers.now a.lanes.now a.sums.now c.requires.0 c.requires.1

pub put_dampen_term-added-requires : goal.put_dampen_term-added-requires
put_dampen_term-added-requires c =
    let a = c.args in
    let l = c.loop-i in
    gather_room (dampen a.p a.rate) a.range a.room a.len a.words.now a.numbers.now a.lanes.now a.sums.now c.requires.0 c.requires.1 l.lanes l.sums l.count l.i l.invariant

pub returns-in_default : goal.returns-in_default
returns-in_default c =
    let a = c.args in
    let l = c.loop-i in
    gather_full (dampen a.p a.rate) a.range a.room a.len a.words.now a.numbers.now a.lanes.now a.sums.now c.requires.0 c.requires.1 l.lanes l.sums l.count l.i l.invariant c.loop-i-test.true
    _ (ap (dampen a.p a.rate) c.term_at-c.ensures) _ _ c.put_dampen_term-added.result c.put_dampen_term-added.ensures c.in_default.is

pub loop-i-preserved : goal.loop-i-preserved
loop-i-preserved c =
    let a = c.args in
    let l = c.loop-i in
    gather_next (dampen a.p a.rate) a.range a.room a.len a.words.now a.numbers.now a.lanes.now a.sums.now c.requires.0 c.requires.1 l.lanes l.sums l.count l.i l.invariant c.loop-i-test.true
    _ (ap (dampen a.p a.rate) c.term_at-c.ensures) _ _ c.put_dampen_term-added.result c.put_dampen_term-added.ensures _ c.in-Some.is c.put_dampen_term-added.auto.lanes c.put_dampen_term-added.auto.sums
