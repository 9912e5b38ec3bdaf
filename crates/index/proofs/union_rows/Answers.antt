-- SPDX-FileCopyrightText: 2026 The PPVM Authors
-- SPDX-License-Identifier: Apache-2.0

-- `union_rows` meets its contract: the rows of the qubits before q that p acts on are united. Assumes nothing.
use Prim.Native.Nat.{◌+◌, ◌*◌, ◌<◌, ◌≤◌}
use mathlib.Core.Path.{refl, ◌∙◌}
use lib.ListN.{length}
use Rattle.word.specs.Word.{max_qubits}
use Rattle.index.proofs.Walk.{stands}
use Rattle.index.proofs.MarkLaws.{row_inside}
use Rattle.index.proofs.Unions.{uniting_start, uniting_turn, uniting_done}
use native.Mathlib.Omega.{arith}
use Rattle.index.proofs.union_rows.Goals as goal
use Rattle.index.proofs.union_rows.Goals.{In-loop-q}

-- the qubit is one of the word's, and its row one of the index's
low : (c : In-loop-q) → (c.loop-q.q < max_qubits) × (c.loop-q.q < c.args.n)
low c = (omega (arith, c.held_qubits-end.ensures, c.loop-q-test.true), omega (arith, c.held_qubits-end.ensures, c.loop-q-test.true))

-- so that its row lies inside
inside : (c : In-loop-q) → c.loop-q.q * c.args.row + c.args.row ≤ length c.args.index.now
inside c =
    let s = c.before.before.before.before.before.before.before.before.before.before in
    row_inside c.args.row c.args.n c.loop-q.q (length c.args.index.now) (low c).1 c.requires.2 c.requires.0

pub loop-q-init : goal.loop-q-init
loop-q-init c =
    let a = c.args in
    let n = c.next_qubit-q.ensures in
    (refl, stands a.p 0 _ n (omega arith), uniting_start a.row a.n a.p a.index.now _ _ c.clear_row.ensures n)

pub loop-q-preserved : goal.loop-q-preserved
loop-q-preserved c =
    let a = c.args in
    let l = c.loop-q in
    let h = low (goal.at.loop-q-preserved c).In-loop-q in
    let n = c.next_qubit-q-in-loop-q.ensures in (
      c.or_row.auto.mask ∙ l.invariant.0,
      stands a.p _ _ n (omega (arith, h.0)),
      uniting_turn a.row a.n a.p a.index.now l.mask l.q l.invariant.1 l.invariant.2 _ (omega (arith, h.0, h.1)) n _ c.or_row.ensures,
    )

pub returns : goal.returns
returns c =
    let a = c.args in
    let l = c.loop-q in
    uniting_done a.row a.n a.p a.index.now l.mask l.q l.invariant.1 l.invariant.2 (omega (arith, c.held_qubits-end.ensures, c.loop-q-test.false))
