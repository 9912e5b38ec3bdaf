-- SPDX-FileCopyrightText: 2026 The PPVM Authors
-- SPDX-License-Identifier: Apache-2.0

-- `choose::choose_largest` meets its contract: what is left to walk leads to what is chosen. Assumes nothing.
use mathlib.Core.Path.{sym, ap, ◌∙◌}
use Prim.Native.Nat.{ℕ}
use lib.ListN.{get_or, drop, length-set}
use borrow.Author.Tests.{eq-eqb, ne_eqb}
use native.Mathlib.Omega.{arith}
use Rattle.keep.specs.Chosen.{walked}
use Rattle.keep.proofs.WalkLaws.{walked_none, walked_end, walked_slot, walked_fixed}
use Rattle.keep.proofs.choose.choose_largest.Goals as goal
use Rattle.keep.proofs.choose.choose_largest.Goals.{then-fixed-p-eq0, else-fixed-p-eq0}

pub returns-then-left-eq0 : goal.returns-then-left-eq0
returns-then-left-eq0 c =
    let a = c.args in
    let l = c.loop-i in
    let rest = drop l.i a.order.now in
    sym (walked_none a.fixed.now rest l.kept) ∙ sym (ap (λ (k : ℕ). walked a.fixed.now rest k l.kept) c.if-left-eq0.true) ∙ l.invariant.1

pub loop-i-preserved : goal.loop-i-preserved
loop-i-preserved c =
    let a = c.args in
    let l = c.loop-i in
    let p = get_or a.order.now l.i 0 in
    elim c.if-fixed-p-eq0.branch [
      | then-fixed-p-eq0 w ↦
          rw (w.kept-is, w.left-is)
          (length-set l.kept p 1 ∙ l.invariant.0, sym (walked_slot a.fixed.now a.order.now l.i l.kept c.loop-i-test.true l.left c.if-left-eq0.false (eq-eqb (get_or a.fixed.now p 0) 0 w.if-fixed-p-eq0.true)) ∙ l.invariant.1)
      | else-fixed-p-eq0 w ↦
          rw (w.kept-is, w.left-is)
          (l.invariant.0, sym (walked_fixed a.fixed.now a.order.now l.i l.kept c.loop-i-test.true l.left c.if-left-eq0.false (ne_eqb (get_or a.fixed.now p 0) 0 w.if-fixed-p-eq0.false)) ∙ l.invariant.1)
    ]

pub returns : goal.returns
returns c =
    let a = c.args in
    let l = c.loop-i in
    sym (walked_end a.fixed.now a.order.now l.i l.left l.kept (omega arith)) ∙ l.invariant.1
