-- SPDX-FileCopyrightText: 2026 The PPVM Authors
-- SPDX-License-Identifier: Apache-2.0

-- `mark_word` meets its contract: the qubits before q that w acts on are marked. Assumes nothing.
use Prim.Native.Nat.{◌+◌, ◌*◌, ◌<◌, ◌≤◌}
use mathlib.Core.Path.{refl, ◌∙◌}
use lib.ListN.{length, length-set}
use Rattle.word.specs.Word.{max_qubits}
use Rattle.index.proofs.Walk.{stands}
use Rattle.index.proofs.MarkLaws.{row_inside, marking_start, marking_turn, marking_done}
use native.Mathlib.Omega.{arith}
use Rattle.index.proofs.mark_word.Goals as goal
use Rattle.index.proofs.mark_word.Goals.{In-loop-q}

-- the qubit is one of the word's, and its row one of the index's
low : (c : In-loop-q) → (c.loop-q.q < max_qubits) × (c.loop-q.q < c.args.n)
low c = (omega (arith, c.held_qubits-end.ensures, c.loop-q-test.true), omega (arith, c.held_qubits-end.ensures, c.loop-q-test.true))

-- so that its row lies inside
inside : (c : In-loop-q) → c.loop-q.q * c.args.row + c.args.row ≤ length c.loop-q.index
inside c =
    let s = c.before.before.before.before.before in
    row_inside c.args.row c.args.n c.loop-q.q (length c.loop-q.index) (low c).1 c.requires.1 (omega (arith, c.requires.0, c.loop-q.invariant.0))

pub loop-q-init : goal.loop-q-init
loop-q-init c =
    let a = c.args in
    let n = c.next_qubit-q.ensures in
    (refl, stands a.w 0 _ n (omega arith), marking_start a.row a.j a.w a.index.now _ n)

pub loop-q-preserved : goal.loop-q-preserved
loop-q-preserved c =
    let a = c.args in
    let l = c.loop-q in
    let h = low (goal.at.loop-q-preserved c).In-loop-q in
    let n = c.next_qubit-q-in-loop-q.ensures in (
      length-set l.index _ _ ∙ l.invariant.0,
      stands a.w _ _ n (omega (arith, h.0)),
      marking_turn a.row a.j a.w a.index.now l.index l.q (omega arith) l.invariant.1 l.invariant.2 _ h.0 n (omega (arith, inside (goal.at.loop-q-preserved c).In-loop-q)),
    )

pub returns : goal.returns
returns c =
    let a = c.args in
    let l = c.loop-q in
    marking_done a.row a.j a.w a.index.now l.index l.q (omega arith) l.invariant.1 l.invariant.2 a.n (omega (arith, c.held_qubits-end.ensures, c.loop-q-test.false))
