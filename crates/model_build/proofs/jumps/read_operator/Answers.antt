-- SPDX-FileCopyrightText: 2026 The PPVM Authors
-- SPDX-License-Identifier: Apache-2.0

-- `jumps::read_operator` meets its contract: after each turn the terms so far are read. Assumes nothing.
use Rattle.number.specs.Floats.{cx}
use Rattle.model_build.proofs.ReadLaws.{text_inside, read_next, read_done}
use native.Mathlib.Omega.{arith}
use Rattle.model_build.proofs.jumps.read_operator.Goals as goal

pub overflow_add-at : goal.overflow_add-at
overflow_add-at c = let a = c.args in omega (arith, text_inside a.n_qubits a.lengths.now a.texts.now a.numbers.now a.words.now a.sums.now c.requires.0 c.requires.1 c.loop-i.words c.loop-i.words c.loop-i.sums c.loop-i.sums c.loop-i.at c.loop-i.i c.loop-i.invariant c.loop-i-test.true)

pub slice_bounds-take_word-end : goal.slice_bounds-take_word-end
slice_bounds-take_word-end c = let a = c.args in text_inside a.n_qubits a.lengths.now a.texts.now a.numbers.now a.words.now a.sums.now c.requires.0 c.requires.1 c.loop-i.words c.loop-i.words c.loop-i.sums c.loop-i.sums c.loop-i.at c.loop-i.i c.loop-i.invariant c.loop-i-test.true

pub loop-i-preserved : goal.loop-i-preserved
loop-i-preserved c =
    let a = c.args in
    let l = c.loop-i in
    read_next a.n_qubits a.lengths.now a.texts.now a.numbers.now a.words.now a.sums.now c.requires.0 c.requires.1 l.words _ l.sums _ l.at l.i l.invariant c.loop-i-test.true c.take_word-w.result (cx c.complex_at-z.result)
    c.take_word-w.ensures c.complex_at-z.ensures c.set_word.ensures c.set_complex.ensures c.set_word.auto.table c.set_complex.auto.table

pub returns : goal.returns
returns c =
    let a = c.args in
    let l = c.loop-i in
    read_done a.n_qubits a.lengths.now a.texts.now a.numbers.now a.words.now a.sums.now c.requires.0 c.requires.1 l.words l.sums l.at l.i l.invariant c.loop-i-test.false
