-- SPDX-FileCopyrightText: 2026 The PPVM Authors
-- SPDX-License-Identifier: Apache-2.0

-- `rows::add_rows` meets its contract: the rows before k are finite and laid. Assumes nothing.
use mathlib.Core.Path.{◌≡◌, sym, ap, ◌∙◌}
use mathlib.Core.Bool.{not}
use Prim.Native.Nat.{◌<◌}
use native.Mathlib.Omega.{arith}
use lib.Ieee.{Float, nan, binary64, add}
use lib.ListN.{length, get_or}
use Rattle.lent.proofs.WriteLaws.{unwritten}
use Rattle.taylor.specs.Stages.{added}
use Rattle.taylor.proofs.SweepLaws.{added_long, added_at, sweep_stop, sweep_more, sweep_done}
use Rattle.taylor.proofs.rows.add_rows.Goals as goal
use Rattle.taylor.proofs.rows.add_rows.Goals.{In-loop-k}

-- k is a row of what is laid
low : (c : In-loop-k) → c.loop-k.k < length (added c.args.v.now c.args.b.now)
low c = omega (arith, added_long c.args.v.now c.args.b.now c.requires)

-- the sum of this row
sum_is : (c : In-loop-k) → add binary64 (get_or c.loop-k.v c.loop-k.k nan) (get_or c.args.b.now c.loop-k.k nan) ≡ get_or (added c.args.v.now c.args.b.now) c.loop-k.k nan
sum_is c =
    let a = c.args in
    let l = c.loop-k in
    ap (λ (x : Float). add binary64 x (get_or a.b.now l.k nan)) (unwritten nan (added a.v.now a.b.now) a.v.now l.v l.k (omega (arith, low c)) (omega arith) l.invariant.laid)
    ∙ sym (added_at a.v.now a.b.now l.k c.requires (omega arith))

pub returns-then-not-is_finite : goal.returns-then-not-is_finite
returns-then-not-is_finite c =
    let a = c.args in
    let l = c.loop-k in
    let t = (goal.at.returns-then-not-is_finite c).In-loop-k in
    sweep_stop (added a.v.now a.b.now) a.v.now l.k l.v l.invariant (low t) _ (sum_is t) _ c.is_finite.ensures (ap not c.if-not-is_finite.true)

pub loop-k-preserved : goal.loop-k-preserved
loop-k-preserved c =
    let a = c.args in
    let l = c.loop-k in
    let t = (goal.at.loop-k-preserved c).In-loop-k in
    sweep_more (added a.v.now a.b.now) a.v.now l.k l.v l.invariant (low t) _ (sum_is t) _ c.is_finite.ensures (ap not c.if-not-is_finite.false) (omega arith)

pub returns : goal.returns
returns c =
    let a = c.args in
    let l = c.loop-k in
    sweep_done (added a.v.now a.b.now) a.v.now l.k l.v l.invariant _ (omega (arith, added_long a.v.now a.b.now c.requires)) (omega arith)
