-- SPDX-FileCopyrightText: 2026 The PPVM Authors
-- SPDX-License-Identifier: Apache-2.0

-- `take::store_hamiltonian` meets its contract: laying the items that are left leaves what laying all leaves. Assumes nothing.
use Rattle.model_build.proofs.Parts.{total_turn}
use Rattle.model_build.proofs.TakenLaws.{lay_next, lay_done}
use native.Mathlib.Omega.{arith}
use Rattle.model_build.proofs.take.store_hamiltonian.Goals as goal

pub overflow_add-at : goal.overflow_add-at
overflow_add-at c =
    omega (arith, c.loop-i.invariant.texts_left, total_turn c.args.lengths.now c.loop-i.i c.loop-i-test.true)

pub slice_bounds-take_word-end : goal.slice_bounds-take_word-end
slice_bounds-take_word-end c =
    omega (arith, c.loop-i.invariant.texts_left, total_turn c.args.lengths.now c.loop-i.i c.loop-i-test.true)

pub loop-i-preserved : goal.loop-i-preserved
loop-i-preserved c =
    let a = c.args in
    let l = c.loop-i in
    let p = c.set_word in
    lay_next a.n_qubits a.lengths.now a.texts.now a.numbers.now a.h_words.now a.h_coeffs.now c.requires l.h_words l.h_coeffs l.i l.at l.invariant c.loop-i-test.true c.take_word-w.result c.take_word-w.ensures
    _ p.ensures.lanes p.auto.table

pub returns : goal.returns
returns c =
    let a = c.args in
    let l = c.loop-i in
    lay_done a.n_qubits a.lengths.now a.texts.now a.numbers.now a.h_words.now a.h_coeffs.now c.requires l.h_words l.h_coeffs l.i l.at l.invariant c.loop-i-test.false
