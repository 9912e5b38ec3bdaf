-- SPDX-FileCopyrightText: 2026 The PPVM Authors
-- SPDX-License-Identifier: Apache-2.0

-- `matrix::largest_square` meets its contract: the largest so far beside the entries that are left is the largest of all. Assumes nothing.
use mathlib.Core.Path.{sym, ◌∙◌}
use native.Mathlib.Omega.{arith}
use Rattle.k_matrix.proofs.MatrixLaws.{largest_turn, largest_end}
use Rattle.k_matrix.proofs.matrix.largest_square.Goals as goal

pub loop-p-preserved : goal.loop-p-preserved
loop-p-preserved c =
    let l = c.loop-p in
    l.invariant ∙ largest_turn c.args.k.now l.largest l.p (omega arith) c.complex_at.ensures c.norm_sqr.ensures c.larger-largest.ensures

pub returns : goal.returns
returns c =
    let l = c.loop-p in
    sym (l.invariant ∙ largest_end c.args.k.now l.largest l.p c.loop-p-test.false)
