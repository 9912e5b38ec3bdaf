-- SPDX-FileCopyrightText: 2026 The PPVM Authors
-- SPDX-License-Identifier: Apache-2.0

-- `matrix::count_pairs` meets its contract: those counted and those that are left are all. Assumes nothing.
use mathlib.Core.Path.{sym, ap, ◌∙◌}
use Prim.Native.Nat.{◌*◌}
use native.Mathlib.Omega.{arith}
use lib.ListN.{length}
use Rattle.number.specs.Floats.{floats}
use Rattle.sums.specs.Numbers.{complexes}
use Rattle.k_matrix.specs.Matrix.{is_pair}
use Rattle.k_matrix.proofs.MatrixLaws.{places_few, passing_yes, passing_no, passing_end}
use Rattle.k_matrix.proofs.matrix.count_pairs.Goals as goal
use Rattle.k_matrix.proofs.matrix.count_pairs.Goals.{then-makes_pair, else-makes_pair}

pub loop-p-preserved : goal.loop-p-preserved
loop-p-preserved c =
    let a = c.args in
    let l = c.loop-p in
    let told = c.makes_pair.ensures in
    elim c.if-makes_pair.branch [
      | then-makes_pair w ↦ (omega arith, omega (arith, ap length (passing_yes (is_pair floats a.ops (complexes a.k.now)) l.p (a.ops * a.ops) c.loop-p-test.true (sym told ∙ w.if-makes_pair.true))))
      | else-makes_pair w ↦ (omega arith, omega (arith, ap length (passing_no (is_pair floats a.ops (complexes a.k.now)) l.p (a.ops * a.ops) c.loop-p-test.true (sym told ∙ w.if-makes_pair.false))))
    ]

pub returns : goal.returns
returns c =
    let l = c.loop-p in
    (omega (arith, l.invariant.1, ap length (passing_end (is_pair floats c.args.ops (complexes c.args.k.now)) l.p (c.args.ops * c.args.ops) c.loop-p-test.false)), omega (arith, places_few c.args.ops c.requires.few))
