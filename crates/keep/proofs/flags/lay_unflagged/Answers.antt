-- SPDX-FileCopyrightText: 2026 The PPVM Authors
-- SPDX-License-Identifier: Apache-2.0

-- `flags::lay_unflagged` meets its contract: the positions passed whose flag is 0 stand. Assumes nothing.
use mathlib.Core.Path.{refl, ◌∙◌}
use lib.Dec.{eqb}
use lib.ListN.{get_or, length-set}
use native.Mathlib.Omega.{arith}
use Rattle.quickselect.proofs.BandLaws.{test_small}
use Rattle.keep.proofs.UnflaggedLaws.{laid_start, laid_next}
use Rattle.keep.proofs.flags.lay_unflagged.Goals as goal

pub loop-i-init : goal.loop-i-init
loop-i-init c = let a = c.args in (omega arith, refl, laid_start a.flags.now a.out.now)

pub loop-i-preserved : goal.loop-i-preserved
loop-i-preserved c =
    let a = c.args in
    let l = c.loop-i in
    let k = c.from-held in (
      omega (arith, test_small (eqb (get_or a.flags.now l.i 0) 0)),
      length-set l.out l.held l.i ∙ l.invariant.1,
      laid_next a.flags.now l.out l.held l.i k.result (omega arith) l.invariant.2 k.ensures,
    )
