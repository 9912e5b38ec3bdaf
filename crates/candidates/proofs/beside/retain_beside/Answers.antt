-- SPDX-FileCopyrightText: 2026 The PPVM Authors
-- SPDX-License-Identifier: Apache-2.0

-- `beside::retain_beside` meets its contract: those that stay among the first stand first, and the others as they stood. Assumes nothing.
use mathlib.Core.Path.{sym, ◌∙◌}
use native.Mathlib.Omega.{arith}
use Rattle.candidates.specs.Sums.{row}
use Rattle.candidates.specs.Between.{stays_beside}
use Rattle.candidates.proofs.BesideLaws.{retaining_start, retaining_takes, retaining_passes, retaining_done}
use Rattle.candidates.proofs.beside.retain_beside.Goals as goal
use Rattle.candidates.proofs.beside.retain_beside.Goals.{then-stays_at, else-stays_at}

pub loop-i-init : goal.loop-i-init
loop-i-init c = retaining_start (stays_beside (row c.args.last c.args.y)) c.args.words.now c.args.sums.now

pub loop-i-preserved : goal.loop-i-preserved
loop-i-preserved c =
    let l = c.loop-i in
    let h = c.loop-i-test.true in
    elim c.if-stays_at.branch [
      | then-stays_at w ↦ rw (w.words-is, w.sums-is, w.held-is) (retaining_takes (stays_beside (row c.args.last c.args.y)) c.args.words.now c.args.sums.now l.words l.sums l.held l.i l.invariant c.requires (omega (arith, h, l.invariant.sums_same)) _ _ _ w.word_at-w.ensures w.lay_row.ensures w.lay_row.auto.out w.lay_row.auto.sums (sym c.stays_at.ensures ∙ w.if-stays_at.true))
      | else-stays_at w ↦ rw (w.words-is, w.sums-is, w.held-is) (retaining_passes (stays_beside (row c.args.last c.args.y)) c.args.words.now c.args.sums.now l.words l.sums l.held l.i l.invariant c.requires (omega (arith, h, l.invariant.sums_same)) (sym c.stays_at.ensures ∙ w.if-stays_at.false))
    ]

pub returns : goal.returns
returns c =
    let l = c.loop-i in
    retaining_done (stays_beside (row c.args.last c.args.y)) c.args.words.now c.args.sums.now l.words l.sums l.held l.i l.invariant c.requires (omega (arith, c.loop-i-test.false, l.invariant.sums_same)) (omega (arith, l.auto.i-end, l.invariant.sums_same))
