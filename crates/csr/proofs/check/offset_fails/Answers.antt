-- SPDX-FileCopyrightText: 2026 The PPVM Authors
-- SPDX-License-Identifier: Apache-2.0

-- `check::offset_fails` meets its contract, test by test. Assumes nothing.
use mathlib.Core.Logic.{⊎_elim}
use mathlib.Core.Path.{◌≡◌}
use Prim.Native.Nat.{◌≤◌}
use native.Mathlib.Omega.{arith}
use borrow.Author.Tests.{ltb-true}
use Rattle.csr.proofs.OffsetLaws.{first_fails, falls, last_tested, not_last}
use Rattle.csr.proofs.check.offset_fails.Goals as goal
use Rattle.csr.proofs.check.offset_fails.Goals.{Joined-else-k-eq0}

passed : (c : Joined-else-k-eq0) → c.args.k ≡ 0 → c.args.here ≤ 0
passed c e = ⊎_elim (λ w. w.1) (λ f. omega arith) c.else-k-eq0.either

pub returns-then-here-gt0 : goal.returns-then-here-gt0
returns-then-here-gt0 c =
    let a = c.args in
    first_fails a.rows a.count a.k a.before a.here c.if-k-eq0.true (ltb-true 0 a.here c.if-here-gt0.true-raw)

pub returns-then-here-before : goal.returns-then-here-before
returns-then-here-before c =
    let a = c.args in
    falls a.rows a.count a.k a.before a.here (passed (goal.at.returns-then-here-before c).Joined-else-k-eq0) c.if-here-before.true

pub returns-then-k-rows : goal.returns-then-k-rows
returns-then-k-rows c =
    let a = c.args in
    last_tested a.rows a.count a.k a.before a.here (passed (goal.at.returns-then-k-rows c).Joined-else-k-eq0) c.if-here-before.false c.if-k-rows.true

pub returns-else-k-rows : goal.returns-else-k-rows
returns-else-k-rows c =
    let a = c.args in
    not_last a.rows a.count a.k a.before a.here (passed (goal.at.returns-else-k-rows c).Joined-else-k-eq0) c.if-here-before.false c.if-k-rows.false
