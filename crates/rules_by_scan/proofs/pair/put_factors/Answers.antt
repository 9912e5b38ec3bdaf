-- SPDX-FileCopyrightText: 2026 The PPVM Authors
-- SPDX-License-Identifier: Apache-2.0

-- `pair::put_factors` meets its contract: after each turn the rows so far are put. Assumes nothing.
use mathlib.Core.Path.{ap}
use mathlib.Core.List.{map}
use Prim.Native.Nat.{◌+◌, ◌-◌}
use Rattle.model.specs.Terms.{Term, terms_in}
use Rattle.rules_by_scan.proofs.PairFactors.{factors_start, factors_room, factors_row, factors_next, factors_full, factors_done}
use Rattle.rules_by_scan.proofs.pair.put_factors.Invariants.{spread}
use Rattle.rules_by_scan.proofs.pair.put_factors.Goals as goal

pub loop-i-init : goal.loop-i-init
loop-i-init c =
    let a = c.args in
    factors_start a.p (spread a.double a.p) a.left (a.right.end - a.right.start) a.factors a.room a.len a.t_words.now a.t_numbers.now a.lanes.now a.sums.now c.requires.0 c.requires.1 (c.requires.3.lanes_long, c.requires.3.numbers_long)

pub put_factor_row-added-requires : goal.put_factor_row-added-requires
put_factor_row-added-requires c =
    let a = c.args in
    let l = c.loop-i in
    let r = factors_row a.p (spread a.double a.p) a.left (a.right.end - a.right.start) a.factors a.room a.len a.t_words.now a.t_numbers.now a.lanes.now a.sums.now c.requires.0 c.requires.1 (c.requires.3.lanes_long, c.requires.3.numbers_long) l.lanes l.sums l.count l.i l.place l.invariant c.loop-i-test.true in
    (factors_room a.p (spread a.double a.p) a.left (a.right.end - a.right.start) a.factors a.room a.len a.t_words.now a.t_numbers.now a.lanes.now a.sums.now c.requires.0 c.requires.1 (c.requires.3.lanes_long, c.requires.3.numbers_long) l.lanes l.sums l.count l.i l.place l.invariant, record { order = r.0; lanes_long = r.1; numbers_long = r.2 })

pub returns-in_default : goal.returns-in_default
returns-in_default c =
    let a = c.args in
    let l = c.loop-i in
    let t = c.term_at-t in
    let q = c.put_factor_row-added in
    factors_full a.p (spread a.double a.p) a.left (a.right.end - a.right.start) a.factors a.room a.len a.t_words.now a.t_numbers.now a.lanes.now a.sums.now c.requires.0 c.requires.1 (c.requires.3.lanes_long, c.requires.3.numbers_long) l.lanes l.sums l.count l.i l.place l.invariant c.loop-i-test.true
    _ (ap (λ (x : Term). map (spread a.double a.p x.word) (terms_in a.t_words.now a.t_numbers.now l.place (l.place + (a.right.end - a.right.start)))) t.ensures) _ _ q.result q.ensures c.in_default.is

pub loop-i-preserved : goal.loop-i-preserved
loop-i-preserved c =
    let a = c.args in
    let l = c.loop-i in
    let t = c.term_at-t in
    let q = c.put_factor_row-added in
    factors_next a.p (spread a.double a.p) a.left (a.right.end - a.right.start) a.factors a.room a.len a.t_words.now a.t_numbers.now a.lanes.now a.sums.now c.requires.0 c.requires.1 (c.requires.3.lanes_long, c.requires.3.numbers_long) l.lanes l.sums l.count l.i l.place l.invariant c.loop-i-test.true
    _ (ap (λ (x : Term). map (spread a.double a.p x.word) (terms_in a.t_words.now a.t_numbers.now l.place (l.place + (a.right.end - a.right.start)))) t.ensures) _ _ q.result q.ensures _ c.in-Some.is q.auto.lanes q.auto.sums

pub returns : goal.returns
returns c =
    let a = c.args in
    let l = c.loop-i in
    factors_done a.p (spread a.double a.p) a.left (a.right.end - a.right.start) a.factors a.room a.len a.t_words.now a.t_numbers.now a.lanes.now a.sums.now c.requires.0 c.requires.1 (c.requires.3.lanes_long, c.requires.3.numbers_long) l.lanes l.sums l.count l.i l.place l.invariant c.loop-i-test.false
