-- SPDX-FileCopyrightText: 2026 The PPVM Authors
-- SPDX-License-Identifier: Apache-2.0

-- `word::next_qubit` meets its contract: none in the lanes passed so far. Assumes nothing.
use Prim.Native.Nat.{◌<◌}
use native.Mathlib.Omega.{arith}
use borrow.Author.Rules.{rules}
use Rattle.word.specs.Word.{max_qubits, Sound}
use Rattle.word.proofs.Words.{sound}
use Rattle.word.proofs.NextLaws.{next_beyond, rest_lowest, next_rest, passed_first, passed_more, lane_lowest, next_lane, next_none}
use Rattle.word.proofs.word.next_qubit.Goals as goal
use Rattle.word.proofs.word.next_qubit.Goals.{Start}

its_sound : (c : Start) → Sound c.args.w
its_sound c = sound c.args.w (search rules) (search rules) (λ i. search rules) (λ i. search rules)

pub returns-then-from-ge-MAX_QUBITS : goal.returns-then-from-ge-MAX_QUBITS
returns-then-from-ge-MAX_QUBITS c = next_beyond c.args.w (its_sound (goal.at.returns-then-from-ge-MAX_QUBITS c).Start) c.args.from c.if-from-ge-MAX_QUBITS.true

pub returns-then-rest-ne0 : goal.returns-then-rest-ne0
returns-then-rest-ne0 c =
    let a = c.args in
    let s = its_sound (goal.at.returns-then-rest-ne0 c).Start in
    let few : a.from < max_qubits = omega arith in
    next_rest a.w s a.from few _ (rest_lowest a.w s a.from few (omega arith))

pub loop-i-init : goal.loop-i-init
loop-i-init c =
    passed_first c.args.w (its_sound (goal.at.loop-i-init c).Start) c.args.from (omega arith) c.if-rest-ne0.false

pub returns-then-lane-ne0 : goal.returns-then-lane-ne0
returns-then-lane-ne0 c =
    let a = c.args in
    let s = its_sound (goal.at.returns-then-lane-ne0 c).Start in
    let l = c.loop-i in
    let few : a.from < max_qubits = omega arith in
    next_lane a.w s a.from few l.i _ l.invariant (omega arith) (omega arith) (lane_lowest a.w s a.from few l.i (omega arith))

pub loop-i-preserved : goal.loop-i-preserved
loop-i-preserved c =
    let a = c.args in
    let l = c.loop-i in
    passed_more a.w (its_sound (goal.at.loop-i-preserved c).Start) a.from (omega arith) l.i l.invariant c.if-lane-ne0.false

pub returns : goal.returns
returns c =
    let a = c.args in
    let l = c.loop-i in
    next_none a.w (its_sound (goal.at.returns c).Start) a.from (omega arith) l.i l.invariant (omega arith)
