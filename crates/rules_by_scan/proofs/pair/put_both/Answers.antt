-- SPDX-FileCopyrightText: 2026 The PPVM Authors
-- SPDX-License-Identifier: Apache-2.0

-- `pair::put_both` meets its contract: after each turn what the words so far add is put. Assumes nothing.
use mathlib.Core.Path.{ap}
use Rattle.rule_terms.specs.Adds.{both_sides}
use Rattle.rules_by_scan.proofs.GatherLaws.{gather_start, gather_room, gather_next, gather_full}
use Rattle.rules_by_scan.proofs.pair.put_both.Goals as goal

pub loop-j-init : goal.loop-j-init
loop-j-init c =
    let a = c.args in
    gather_start (both_sides a.p) a.product a.room a.len a.t_words.now a.t_numbers.now a.lanes.now a.sums.now c.requires.0 c.requires.1

pub put_both_term-added-requires : goal.put_both_term-added-requires
put_both_term-added-requires c =
    let a = c.args in
    let l = c.loop-j in
    gather_room (both_sides a.p) a.product a.room a.len a.t_words.now a.t_numbers.now a.lanes.now a.sums.now c.requires.0 c.requires.1 l.lanes l.sums l.count l.j l.invariant

pub returns-in_default : goal.returns-in_default
returns-in_default c =
    let a = c.args in
    let l = c.loop-j in
    let t = c.term_at-c in
    let q = c.put_both_term-added in
    gather_full (both_sides a.p) a.product a.room a.len a.t_words.now a.t_numbers.now a.lanes.now a.sums.now c.requires.0 c.requires.1 l.lanes l.sums l.count l.j l.invariant c.loop-j-test.true
    _ (ap (both_sides a.p) t.ensures) _ _ q.result q.ensures c.in_default.is

pub loop-j-preserved : goal.loop-j-preserved
loop-j-preserved c =
    let a = c.args in
    let l = c.loop-j in
    let t = c.term_at-c in
    let q = c.put_both_term-added in
    gather_next (both_sides a.p) a.product a.room a.len a.t_words.now a.t_numbers.now a.lanes.now a.sums.now c.requires.0 c.requires.1 l.lanes l.sums l.count l.j l.invariant c.loop-j-test.true
    _ (ap (both_sides a.p) t.ensures) _ _ q.result q.ensures _ c.in-Some.is q.auto.lanes q.auto.sums
