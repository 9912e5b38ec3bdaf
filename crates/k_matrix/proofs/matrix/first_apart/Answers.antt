-- SPDX-FileCopyrightText: 2026 The PPVM Authors
-- SPDX-License-Identifier: Apache-2.0

-- `matrix::first_apart` meets its contract: none of the places before p is apart. Assumes nothing.
use mathlib.Core.Path.{refl}
use Prim.Native.Nat.{◌*◌}
use Rattle.number.specs.Floats.{floats}
use Rattle.sums.specs.Numbers.{complexes}
use Rattle.lent.proofs.Firsts.{none_more, stops_here, stops_last}
use Rattle.k_matrix.specs.Matrix.{apart_at}
use Rattle.k_matrix.proofs.MatrixLaws.{apart_turned, apart_here}
use Rattle.k_matrix.proofs.matrix.first_apart.Goals as goal
use Rattle.k_matrix.proofs.matrix.first_apart.Goals.{then-n-m+else-entries_apart, else-n-m}

pub returns-then-entries_apart : goal.returns-then-entries_apart
returns-then-entries_apart c =
    let a = c.args in
    let l = c.loop-p in
    stops_here (a.ops * a.ops) (apart_at floats a.ops (complexes a.k.now)) l.p c.loop-p-test.true l.invariant refl
    (apart_here a.ops (complexes a.k.now) l.p c.if-n-m.true c.entries_apart.ensures c.if-entries_apart.true)

pub loop-p-preserved : goal.loop-p-preserved
loop-p-preserved c =
    let a = c.args in
    let l = c.loop-p in
    none_more (apart_at floats a.ops (complexes a.k.now)) l.p l.invariant
    (elim c.if-n-m.branch [
      | then-n-m+else-entries_apart w ↦ apart_here a.ops (complexes a.k.now) l.p w.if-n-m.true w.entries_apart.ensures w.if-entries_apart.false
      | else-n-m w ↦ apart_turned a.ops (complexes a.k.now) l.p w.if-n-m.false
    ])

pub returns : goal.returns
returns c =
    let a = c.args in
    let l = c.loop-p in
    stops_last (a.ops * a.ops) (apart_at floats a.ops (complexes a.k.now)) l.p c.loop-p-test.false l.invariant
