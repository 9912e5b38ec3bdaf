-- SPDX-FileCopyrightText: 2026 The PPVM Authors
-- SPDX-License-Identifier: Apache-2.0

-- `items::check_hamiltonian` meets its contract: the items that are left answer for all. Assumes nothing.
use mathlib.Core.Path.{sym, ◌∙◌}
use Rattle.refusal.proofs.Told.{handed_on}
use Rattle.model_build.proofs.Parts.{total_turn}
use Rattle.model_build.proofs.FirstRefusal.{reals_start, reals_on, reals_stop, reals_end}
use native.Mathlib.Omega.{arith}
use Rattle.model_build.proofs.items.check_hamiltonian.Goals as goal

pub overflow_add-at : goal.overflow_add-at
overflow_add-at c = omega (arith, total_turn c.args.lengths.now c.loop-i.i c.loop-i-test.true)

pub slice_bounds-check_real-end : goal.slice_bounds-check_real-end
slice_bounds-check_real-end c = omega (arith, total_turn c.args.lengths.now c.loop-i.i c.loop-i-test.true)

pub returns-in_err-check_real : goal.returns-in_err-check_real
returns-in_err-check_real c =
    let a = c.args in
    let l = c.loop-i in
    handed_on _ _ c.from_residual.ensures.1 ∙ sym (reals_start a.n_qubits a.lengths.now a.texts.now a.numbers.now ∙ l.invariant.1
    ∙ reals_stop a.n_qubits a.lengths.now a.texts.now a.numbers.now l.i l.at c.loop-i-test.true (omega arith) _ c.check_real.ensures _ c.in_err-check_real.was)

pub loop-i-preserved : goal.loop-i-preserved
loop-i-preserved c =
    let a = c.args in
    let l = c.loop-i in (
      omega (arith, total_turn a.lengths.now l.i c.loop-i-test.true),
      l.invariant.1
          ∙ reals_on a.n_qubits a.lengths.now a.texts.now a.numbers.now l.i l.at c.loop-i-test.true (omega arith) _ c.check_real.ensures c.in_ok-check_real.was,
    )

pub returns : goal.returns
returns c =
    let a = c.args in
    let l = c.loop-i in
    sym (reals_start a.n_qubits a.lengths.now a.texts.now a.numbers.now ∙ l.invariant.1
    ∙ reals_end a.n_qubits a.lengths.now a.texts.now a.numbers.now l.i l.at c.loop-i-test.false)
