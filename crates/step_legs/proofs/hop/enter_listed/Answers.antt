-- SPDX-FileCopyrightText: 2026 The PPVM Authors
-- SPDX-License-Identifier: Apache-2.0

-- `hop::enter_listed` meets its contract: a list is admitted, a refusal passed on. Assumes nothing.
use mathlib.Core.Path.{sym}
use native.Mathlib.Omega.{arith}
use lib.Seq.{length-take-le}
use Rattle.step_legs.proofs.EnterLaws.{enters_listed, enters_refused}
use borrow.Author.Rules.{rules}
use Rattle.step_legs.proofs.hop.enter_listed.Goals as goal

pub slice_bounds-add_leakage_capped-end-in-Ok : goal.slice_bounds-add_leakage_capped-end-in-Ok
slice_bounds-add_leakage_capped-end-in-Ok c =
    sym (length-take-le _ c.args.grown_words.now (omega (arith, c.requires.1)))

pub slice_bounds-add_leakage_capped-end-in-Ok-3 : goal.slice_bounds-add_leakage_capped-end-in-Ok-3
slice_bounds-add_leakage_capped-end-in-Ok-3 c =
    sym (length-take-le _ c.args.start.now c.requires.2)

pub overflow_mul-count : goal.overflow_mul-count
overflow_mul-count c =
    let p = c.requires.0 _ c.in-Ok.is in
    search (p.0, c.well_formed, rules)

pub slice_bounds-add_leakage_capped-end-in-Ok-4 : goal.slice_bounds-add_leakage_capped-end-in-Ok-4
slice_bounds-add_leakage_capped-end-in-Ok-4 c =
    omega (arith, (c.requires.0 _ c.in-Ok.is).0)

pub slice_bounds-add_leakage_capped-end-in-Ok-5 : goal.slice_bounds-add_leakage_capped-end-in-Ok-5
slice_bounds-add_leakage_capped-end-in-Ok-5 c =
    sym (length-take-le _ c.args.list_words.now (omega (arith, (c.requires.0 _ c.in-Ok.is).0)))

pub slice_bounds-add_leakage_capped-end-in-Ok-6 : goal.slice_bounds-add_leakage_capped-end-in-Ok-6
slice_bounds-add_leakage_capped-end-in-Ok-6 c =
    (c.requires.0 _ c.in-Ok.is).1

pub slice_bounds-add_leakage_capped-end-in-Ok-7 : goal.slice_bounds-add_leakage_capped-end-in-Ok-7
slice_bounds-add_leakage_capped-end-in-Ok-7 c =
    sym (length-take-le _ c.args.list_values.now (c.requires.0 _ c.in-Ok.is).1)

pub returns-in-Ok : goal.returns-in-Ok
returns-in-Ok c =
    let a = c.args in (
      enters_listed a.leaked a.n a.limit a.places a.len a.cand_words.now a.place_order.now a.place_work.now a.list_words.now a.list_values.now a.grown_words.now a.start.now _ c.in-Ok.is _ c.add_leakage_capped-entered.ensures,
      c.clear_lanes.ensures,
      c.clear_numbers.ensures,
    )

pub returns-in-Err : goal.returns-in-Err
returns-in-Err c =
    let a = c.args in (
      enters_refused a.leaked a.n a.limit a.places a.len a.cand_words.now a.place_order.now a.place_work.now a.list_words.now a.list_values.now a.grown_words.now a.start.now _ c.in-Err.is,
      c.clear_lanes-in-Err.ensures,
      c.clear_numbers-in-Err.ensures,
    )
