-- SPDX-FileCopyrightText: 2026 The PPVM Authors
-- SPDX-License-Identifier: Apache-2.0

-- `passes::run_passes` meets its contract: no candidate stands at first, and the positions of those that stand at the end are put into word order. Assumes nothing.
use mathlib.Core.Path.{sym}
use native.Mathlib.Omega.{arith}
use lib.ListN.{length}
use lib.Seq.{length-take-le}
use Rattle.refusal.proofs.Told.{handed_on}
use Rattle.passes.proofs.PassesLaws.{none_stand, run_refused, run_long, run_held}
use Rattle.passes.proofs.passes.run_passes.Goals as goal

pub take_passes-requires : goal.take_passes-requires
take_passes-requires c =
    let a = c.args in
    let h = c.requires.candidates_long in
    let z = c.clear_lanes in
    record {
      model_ready = c.requires.model_ready;
      basis_ready = c.requires.basis_ready;
      action_room = c.requires.action_room;
      standing = none_stand a.candidate_room (length a.order.now) a.words.now a.sums.now _ a.work.now h.0 h.1 z.ensures (omega (arith, h.2, z.auto.t)) h.3;
    }

pub returns-in_err-n : goal.returns-in_err-n
returns-in_err-n c =
    let q = c.take_passes in
    rw (handed_on _ _ c.from_residual.ensures.1) (run_refused c.args.candidate_room _ _ _ _ _ q.result q.ensures _ c.in_err-n.was _)

pub overflow_mul-n : goal.overflow_mul-n
overflow_mul-n c =
    let a = c.args in
    let q = c.take_passes in
    let r = run_long a.candidate_room _ _ _ _ _ q.result q.ensures _ c.in_ok-n.was in
    omega (arith, r.1, q.auto.words, c.well_formed.1.1.1.1.1.1.1.1.1.1.1.1.1.1.1.1.1.1.1.0)

pub slice_bounds-order_words-end : goal.slice_bounds-order_words-end
slice_bounds-order_words-end c =
    let a = c.args in
    let q = c.take_passes in
    let r = run_long a.candidate_room _ _ _ _ _ q.result q.ensures _ c.in_ok-n.was in
    omega (arith, r.1)

pub slice_bounds-order_words-end-2 : goal.slice_bounds-order_words-end-2
slice_bounds-order_words-end-2 c =
    let a = c.args in
    let q = c.take_passes in
    let r = run_long a.candidate_room _ _ _ _ _ q.result q.ensures _ c.in_ok-n.was in
    sym (length-take-le _ q.new.words (omega (arith, r.1)))

pub slice_bounds-order_words-end-3 : goal.slice_bounds-order_words-end-3
slice_bounds-order_words-end-3 c =
    let a = c.args in
    let q = c.take_passes in
    let r = run_long a.candidate_room _ _ _ _ _ q.result q.ensures _ c.in_ok-n.was in
    r.2

pub slice_bounds-order_words-end-5 : goal.slice_bounds-order_words-end-5
slice_bounds-order_words-end-5 c =
    let a = c.args in
    let q = c.take_passes in
    let r = run_long a.candidate_room _ _ _ _ _ q.result q.ensures _ c.in_ok-n.was in
    r.3

pub returns : goal.returns
returns c =
    let a = c.args in
    let q = c.take_passes in
    run_held a.candidate_room _ _ _ _ _ q.result q.ensures _ c.in_ok-n.was c.order_words.new.order _ c.order_words.ensures
