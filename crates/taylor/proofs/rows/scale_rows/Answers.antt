-- SPDX-FileCopyrightText: 2026 The PPVM Authors
-- SPDX-License-Identifier: Apache-2.0

-- `rows::scale_rows` meets its contract: the rows before k are finite and laid. Assumes nothing.
use mathlib.Core.Path.{sym, ap}
use mathlib.Core.Bool.{not}
use Prim.Native.Nat.{◌<◌}
use native.Mathlib.Omega.{arith}
use lib.ListN.{length}
use Rattle.taylor.specs.Stages.{scaled}
use Rattle.taylor.proofs.SweepLaws.{scaled_long, scaled_at, sweep_stop, sweep_more, sweep_done}
use Rattle.taylor.proofs.rows.scale_rows.Goals as goal
use Rattle.taylor.proofs.rows.scale_rows.Goals.{In-loop-k}

-- k is a row of what is laid
low : (c : In-loop-k) → c.loop-k.k < length (scaled c.args.factor c.args.product.now)
low c = omega (arith, scaled_long c.args.factor c.args.product.now)

pub returns-then-not-is_finite : goal.returns-then-not-is_finite
returns-then-not-is_finite c =
    let a = c.args in
    let l = c.loop-k in
    let t = (goal.at.returns-then-not-is_finite c).In-loop-k in
    sweep_stop (scaled a.factor a.product.now) a.b.now l.k l.b l.invariant (low t) _ (sym (scaled_at a.factor a.product.now l.k (omega arith))) _ c.is_finite.ensures (ap not c.if-not-is_finite.true)

pub loop-k-preserved : goal.loop-k-preserved
loop-k-preserved c =
    let a = c.args in
    let l = c.loop-k in
    let t = (goal.at.loop-k-preserved c).In-loop-k in
    sweep_more (scaled a.factor a.product.now) a.b.now l.k l.b l.invariant (low t) _ (sym (scaled_at a.factor a.product.now l.k (omega arith))) _ c.is_finite.ensures (ap not c.if-not-is_finite.false) (omega arith)

pub returns : goal.returns
returns c =
    let a = c.args in
    let l = c.loop-k in
    sweep_done (scaled a.factor a.product.now) a.b.now l.k l.b l.invariant _ (omega (arith, scaled_long a.factor a.product.now)) (omega arith)
