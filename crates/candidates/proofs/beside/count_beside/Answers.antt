-- SPDX-FileCopyrightText: 2026 The PPVM Authors
-- SPDX-License-Identifier: Apache-2.0

-- `beside::count_beside` meets its contract: those that stay among the first are counted. Assumes nothing.
use mathlib.Core.Path.{ap, sym, ◌∙◌}
use native.Mathlib.Omega.{arith}
use Rattle.word.specs.Flat.{words as words_in}
use Rattle.candidates.specs.Sums.{row}
use Rattle.candidates.specs.Tables.{rows}
use Rattle.candidates.specs.Between.{stays_beside}
use Rattle.candidates.proofs.RowLaws.{no_row}
use Rattle.candidates.proofs.BesideLaws.{all_long, all_at}
use Rattle.candidates.proofs.ThoseLaws.{counting_start, counting_takes, counting_passes, counting_done}
use Rattle.candidates.proofs.beside.count_beside.Goals as goal
use Rattle.candidates.proofs.beside.count_beside.Goals.{then-stays_at, else-stays_at}

pub loop-i-init : goal.loop-i-init
loop-i-init c = counting_start (stays_beside (row c.args.last c.args.y)) (rows (words_in c.args.words.now) c.args.sums.now)

pub loop-i-preserved : goal.loop-i-preserved
loop-i-preserved c =
    let l = c.loop-i in
    let h = c.loop-i-test.true in
    elim c.if-stays_at.branch [
      | then-stays_at w ↦ rw w.count-is (counting_takes (stays_beside (row c.args.last c.args.y)) (rows (words_in c.args.words.now) c.args.sums.now) l.count l.i l.invariant no_row (omega (arith, all_long c.args.words.now c.args.sums.now c.requires)) (ap (stays_beside (row c.args.last c.args.y)) (all_at c.args.words.now c.args.sums.now c.requires l.i h) ∙ sym c.stays_at.ensures ∙ w.if-stays_at.true))
      | else-stays_at w ↦ rw w.count-is (counting_passes (stays_beside (row c.args.last c.args.y)) (rows (words_in c.args.words.now) c.args.sums.now) l.count l.i l.invariant no_row (omega (arith, all_long c.args.words.now c.args.sums.now c.requires)) (ap (stays_beside (row c.args.last c.args.y)) (all_at c.args.words.now c.args.sums.now c.requires l.i h) ∙ sym c.stays_at.ensures ∙ w.if-stays_at.false))
    ]

pub returns : goal.returns
returns c =
    counting_done (stays_beside (row c.args.last c.args.y)) (rows (words_in c.args.words.now) c.args.sums.now) c.loop-i.count c.loop-i.i c.loop-i.invariant (omega (arith, c.loop-i-test.false, all_long c.args.words.now c.args.sums.now c.requires))
