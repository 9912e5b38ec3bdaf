-- SPDX-FileCopyrightText: 2026 The PPVM Authors
-- SPDX-License-Identifier: Apache-2.0

-- `largest::keep_to` meets its contract: after each turn the flags so far are right, and so is their number. Assumes nothing.
use mir.Val.{bool_byte}
use lib.Ieee.{nan}
use lib.ListN.{get_or}
use native.Mathlib.Omega.{arith}
use Rattle.quickselect.proofs.BandLaws.{test_small}
use Rattle.keep.proofs.LargestLaws.{beside_number, next_free, next_fixed}
use Rattle.keep.proofs.largest.keep_to.Goals as goal
use Rattle.keep.proofs.largest.keep_to.Goals.{then-fixed-i-eq0, else-fixed-i-eq0}

pub overflow_add-taken : goal.overflow_add-taken
overflow_add-taken c =
    let l = c.loop-i in
    omega (arith, l.invariant.few, test_small c.stays-is_large.result)

pub loop-i-preserved : goal.loop-i-preserved
loop-i-preserved c =
    let a = c.args in
    let l = c.loop-i in
    let s = c.stays-is_large in
    let e = beside_number c.magnitude-cut.result a.last l.i (get_or a.coeffs.now l.i nan) s.result s.ensures in
    elim c.if-fixed-i-eq0.branch [
      | then-fixed-i-eq0 w ↦
          rw (w.kept-is, w.taken-is, w.from.ensures, w.from-taken.ensures)
          (next_free c.magnitude-cut.result a.coeffs.now a.fixed.now a.last l.taken l.i l.kept l.invariant (omega arith) (bool_byte s.result) w.if-fixed-i-eq0.true e)
      | else-fixed-i-eq0 w ↦
          rw (w.kept-is, w.taken-is)
          (next_fixed c.magnitude-cut.result a.coeffs.now a.fixed.now a.last l.taken l.i l.kept l.invariant (omega arith) w.if-fixed-i-eq0.false)
    ]
