-- SPDX-FileCopyrightText: 2026 The PPVM Authors
-- SPDX-License-Identifier: Apache-2.0

-- `items::check_terms` meets its contract: the terms that are left answer for all. Assumes nothing.
use mathlib.Core.Path.{sym, ◌∙◌}
use Rattle.refusal.proofs.Told.{handed_on}
use Rattle.model_build.proofs.Parts.{total_turn}
use Rattle.model_build.proofs.FirstRefusal.{terms_start, terms_on, terms_stop, terms_end}
use native.Mathlib.Omega.{arith}
use Rattle.model_build.proofs.items.check_terms.Goals as goal

pub overflow_add-at : goal.overflow_add-at
overflow_add-at c = omega (arith, total_turn c.args.lengths.now c.loop-i.i c.loop-i-test.true)

pub slice_bounds-check_term-end : goal.slice_bounds-check_term-end
slice_bounds-check_term-end c = omega (arith, total_turn c.args.lengths.now c.loop-i.i c.loop-i-test.true)

pub returns-in_err-check_term : goal.returns-in_err-check_term
returns-in_err-check_term c =
    let a = c.args in
    let l = c.loop-i in
    handed_on _ _ c.from_residual.ensures.1 ∙ sym (terms_start a.n_qubits a.index a.lengths.now a.texts.now a.numbers.now ∙ l.invariant.1
    ∙ terms_stop a.n_qubits a.index a.lengths.now a.texts.now a.numbers.now l.i l.at c.loop-i-test.true (omega arith) _ c.check_term.ensures _ c.in_err-check_term.was)

pub loop-i-preserved : goal.loop-i-preserved
loop-i-preserved c =
    let a = c.args in
    let l = c.loop-i in (
      omega (arith, total_turn a.lengths.now l.i c.loop-i-test.true),
      l.invariant.1
          ∙ terms_on a.n_qubits a.index a.lengths.now a.texts.now a.numbers.now l.i l.at c.loop-i-test.true (omega arith) _ c.check_term.ensures c.in_ok-check_term.was,
    )

pub returns : goal.returns
returns c =
    let a = c.args in
    let l = c.loop-i in
    sym (terms_start a.n_qubits a.index a.lengths.now a.texts.now a.numbers.now ∙ l.invariant.1
    ∙ terms_end a.n_qubits a.index a.lengths.now a.texts.now a.numbers.now l.i l.at c.loop-i-test.false)
