-- SPDX-FileCopyrightText: 2026 The PPVM Authors
-- SPDX-License-Identifier: Apache-2.0

-- `check::first_bad_offset` meets its contract: the offsets before k pass. Assumes nothing.
use mathlib.Core.Path.{◌≡◌, ap, ◌∙◌}
use Prim.Native.Nat.{ℕ, ◌+◌, ◌-◌}
use native.Mathlib.Omega.{arith}
use lib.ListN.{get_or}
use Rattle.lent.proofs.Firsts.{stops_here, goes_on, stops_last}
use Rattle.csr.specs.Lent.{offset_fails, bad_offset}
use Rattle.csr.proofs.check.first_bad_offset.Goals as goal
use Rattle.csr.proofs.check.first_bad_offset.Goals.{After-offset_fails}

tested : (c : After-offset_fails) → c.offset_fails.result ≡ bad_offset c.args.rows c.args.count c.args.offsets.now c.loop-k.k
unfolding bad_offset
tested c =
    let a = c.args in
    let l = c.loop-k in
    c.offset_fails.ensures ∙ ap (λ (b : ℕ). offset_fails a.rows a.count l.k b (get_or a.offsets.now l.k 0)) l.invariant.0

pub returns-then-offset_fails : goal.returns-then-offset_fails
returns-then-offset_fails c =
    stops_here (c.args.rows + 1) _ _ (omega arith) c.loop-k.invariant.1 (tested (goal.at.returns-then-offset_fails c).After-offset_fails) c.if-offset_fails.true

pub loop-k-preserved : goal.loop-k-preserved
loop-k-preserved c =
    let l = c.loop-k in
    let e : l.k ≡ l.k + 1 - 1 = omega arith in
    (ap (λ (i : ℕ). get_or c.args.offsets.now i 0) e, goes_on _ _ l.invariant.1 (tested (goal.at.loop-k-preserved c).After-offset_fails) c.if-offset_fails.false)

pub returns : goal.returns
returns c = c.requires ∙ stops_last (c.args.rows + 1) _ c.loop-k.k (omega arith) c.loop-k.invariant.1
