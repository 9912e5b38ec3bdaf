-- SPDX-FileCopyrightText: 2026 The PPVM Authors
-- SPDX-License-Identifier: Apache-2.0

-- `act::act_tested` meets its contract, answer by answer. Assumes nothing.
use mathlib.Core.Path.{sym, ap, ◌∙◌}
use Prim.Native.Nat.{ℕ}
use native.Mathlib.Omega.{arith}
use lib.ListN.{length, replicate}
use Rattle.number.specs.Floats.{float0}
use Rattle.model.specs.Stored.{ModelTables}
use Rattle.action.proofs.ActLaws.{empty_room, sums_full, sums_held, listed_are, sums_inside, list_room, act_outside, act_full, act_unlisted, act_listed}
use Rattle.model.specs.Between.{model_tables}
use Rattle.action.proofs.act.act_tested.Goals as goal

pub returns-then-reaches_beyond : goal.returns-then-reaches_beyond
returns-then-reaches_beyond c =
    let a = c.args in
    let t : ModelTables = model_tables a.h_words.now a.h_coeffs.now a.jumps.now a.rates.now a.t_words.now a.t_numbers.now in
    act_outside a.out_words.now a.out_values.now a.work_words.now a.work_sums.now a.m t a.p c.requires (sym c.reaches_beyond.ensures ∙ c.if-reaches_beyond.true)

pub put_rules-requires : goal.put_rules-requires
put_rules-requires c =
    (empty_room _ c.args.work_words.now c.args.work_sums.now (omega (arith, c.smaller-room.ensures)) (omega (arith, c.smaller-room.ensures)), c.requires)

pub returns-in_default : goal.returns-in_default
returns-in_default c =
    let a = c.args in
    let t : ModelTables = model_tables a.h_words.now a.h_coeffs.now a.jumps.now a.rates.now a.t_words.now a.t_numbers.now in
    let q = c.put_rules in
    act_full a.out_words.now a.out_values.now a.work_words.now a.work_sums.now a.m t a.p c.requires (sym c.reaches_beyond.ensures ∙ c.if-reaches_beyond.false) _ _ _ c.smaller-room.ensures
    (sums_full a.m t a.p _ a.work_words.now a.work_sums.now _ _ _ q.ensures c.in_default.is)
    (c.clear_lanes.ensures ∙ ap (λ (n : ℕ). replicate n 0) q.auto.lanes)
    (c.clear_numbers.ensures ∙ ap (λ (n : ℕ). replicate n float0) q.auto.sums)

pub count_listed-count-requires : goal.count_listed-count-requires
count_listed-count-requires c =
    let a = c.args in
    let t : ModelTables = model_tables a.h_words.now a.h_coeffs.now a.jumps.now a.rates.now a.t_words.now a.t_numbers.now in
    let q = c.put_rules in
    sums_inside a.m t a.p _ a.work_words.now a.work_sums.now _ _ _ q.ensures _ c.in-Some.is q.auto.lanes q.auto.sums (omega (arith, c.smaller-room.ensures)) (omega (arith, c.smaller-room.ensures))

pub returns-then-places-count : goal.returns-then-places-count
returns-then-places-count c =
    let a = c.args in
    let t : ModelTables = model_tables a.h_words.now a.h_coeffs.now a.jumps.now a.rates.now a.t_words.now a.t_numbers.now in
    let q = c.put_rules in
    let e = c.in-Some.is in
    let h = sums_held a.m t a.p _ a.work_words.now a.work_sums.now _ _ _ q.ensures _ e in
    let k = listed_are a.m t a.p _ a.work_words.now a.work_sums.now _ _ _ q.ensures _ e in
    let n = c.count_listed-count.ensures ∙ ap length k in
    act_unlisted a.out_words.now a.out_values.now a.work_words.now a.work_sums.now a.m t a.p c.requires (sym c.reaches_beyond.ensures ∙ c.if-reaches_beyond.false) (omega (arith, h.1, c.smaller-room.ensures)) _ _ _ c.smaller-places.ensures
    (omega (arith, n, c.if-places-count.true))
    (c.clear_lanes-then-places-count.ensures ∙ ap (λ (n : ℕ). replicate n 0) q.auto.lanes)
    (c.clear_numbers-then-places-count.ensures ∙ ap (λ (n : ℕ). replicate n float0) q.auto.sums)

pub list_sums-requires : goal.list_sums-requires
list_sums-requires c =
    let a = c.args in
    let t : ModelTables = model_tables a.h_words.now a.h_coeffs.now a.jumps.now a.rates.now a.t_words.now a.t_numbers.now in
    let q = c.put_rules in
    list_room a.m t a.p _ a.work_words.now a.work_sums.now _ _ _ q.ensures _ c.in-Some.is q.auto.lanes q.auto.sums (omega (arith, c.smaller-room.ensures)) (omega (arith, c.smaller-room.ensures))
    a.out_words.now a.out_values.now _ _ c.count_listed-count.ensures c.smaller-places.ensures c.if-places-count.false

pub returns : goal.returns
returns c =
    let a = c.args in
    let t : ModelTables = model_tables a.h_words.now a.h_coeffs.now a.jumps.now a.rates.now a.t_words.now a.t_numbers.now in
    let q = c.put_rules in
    let e = c.in-Some.is in
    let h = sums_held a.m t a.p _ a.work_words.now a.work_sums.now _ _ _ q.ensures _ e in
    let k = listed_are a.m t a.p _ a.work_words.now a.work_sums.now _ _ _ q.ensures _ e in
    let n = c.count_listed-count.ensures in
    act_listed a.out_words.now a.out_values.now a.work_words.now a.work_sums.now a.m t a.p c.requires (sym c.reaches_beyond.ensures ∙ c.if-reaches_beyond.false) (omega (arith, h.1, c.smaller-room.ensures)) _ _ _ _ _ _ k n
    (omega (arith, c.smaller-places.ensures, c.if-places-count.false))
    c.list_sums.ensures
    (c.clear_lanes-2.ensures ∙ ap (λ (n : ℕ). replicate n 0) q.auto.lanes)
    (c.clear_numbers-2.ensures ∙ ap (λ (n : ℕ). replicate n float0) q.auto.sums)
