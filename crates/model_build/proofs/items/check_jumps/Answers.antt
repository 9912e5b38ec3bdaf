-- SPDX-FileCopyrightText: 2026 The PPVM Authors
-- SPDX-License-Identifier: Apache-2.0

-- `items::check_jumps` meets its contract: the jumps that are left answer for all; their terms and texts are those that are left. Assumes nothing.
use mathlib.Core.Path.{sym, ◌∙◌}
use lib.ListN.{get_or}
use Rattle.refusal.proofs.Told.{handed_on}
use Rattle.model_build.proofs.Parts.{total_turn, total_part}
use Rattle.model_build.proofs.FirstRefusal.{jumps_start, jumps_on, jumps_stop, jumps_end}
use native.Mathlib.Omega.{arith}
use Rattle.model_build.proofs.items.check_jumps.Goals as goal

pub overflow_add-own : goal.overflow_add-own
overflow_add-own c =
    omega (arith, total_turn c.args.counts.now c.loop-j.j c.loop-j-test.true)

pub slice_bounds-own-end : goal.slice_bounds-own-end
slice_bounds-own-end c =
    omega (arith, total_turn c.args.counts.now c.loop-j.j c.loop-j-test.true)

pub check_jump-requires : goal.check_jump-requires
check_jump-requires c =
    let a = c.args in
    let l = c.loop-j in
    (omega arith, omega (arith, total_part a.lengths.now l.t (get_or a.counts.now l.j 0)))

pub returns-in_err-check_jump : goal.returns-in_err-check_jump
returns-in_err-check_jump c =
    let a = c.args in
    let l = c.loop-j in
    handed_on _ _ c.from_residual.ensures.1 ∙ sym (jumps_start a.n_qubits a.rates.now a.counts.now a.lengths.now a.texts.now a.numbers.now ∙ l.invariant.2
    ∙ jumps_stop a.n_qubits a.rates.now a.counts.now a.lengths.now a.texts.now a.numbers.now l.j l.t l.at (omega arith) c.loop-j-test.true _ c.check_jump.ensures _ c.in_err-check_jump.was)

pub sum_of-at-requires : goal.sum_of-at-requires
sum_of-at-requires c =
    let a = c.args in
    let l = c.loop-j in
    omega (arith, total_part a.lengths.now l.t (get_or a.counts.now l.j 0))

pub overflow_add-at : goal.overflow_add-at
overflow_add-at c =
    let a = c.args in
    let l = c.loop-j in
    omega (arith, c.sum_of-at.ensures, total_part a.lengths.now l.t (get_or a.counts.now l.j 0))

pub loop-j-preserved : goal.loop-j-preserved
loop-j-preserved c =
    let a = c.args in
    let l = c.loop-j in (
      omega (arith, total_turn a.counts.now l.j c.loop-j-test.true),
      omega (arith, c.sum_of-at.ensures, total_part a.lengths.now l.t (get_or a.counts.now l.j 0)),
      l.invariant.2
          ∙ jumps_on a.n_qubits a.rates.now a.counts.now a.lengths.now a.texts.now a.numbers.now l.j l.t l.at (omega arith) c.loop-j-test.true _ c.check_jump.ensures c.in_ok-check_jump.was _ c.sum_of-at.ensures,
    )

pub returns : goal.returns
returns c =
    let a = c.args in
    let l = c.loop-j in
    sym (jumps_start a.n_qubits a.rates.now a.counts.now a.lengths.now a.texts.now a.numbers.now ∙ l.invariant.2
    ∙ jumps_end a.n_qubits a.rates.now a.counts.now a.lengths.now a.texts.now a.numbers.now l.j l.t l.at c.loop-j-test.false)
