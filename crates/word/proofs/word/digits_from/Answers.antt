-- SPDX-FileCopyrightText: 2026 The PPVM Authors
-- SPDX-License-Identifier: Apache-2.0

-- `word::digits_from` meets its contract: all, none, or all but the lowest. Assumes nothing.
use Prim.Native.Nat.{◌-◌, ◌<◌}
use native.Mathlib.Omega.{arith}
use lib.Pow.{pow_pos}
use Rattle.word.proofs.NextLaws.{one_shifted, digits_all, digits_none, digits_some}
use Rattle.word.proofs.word.digits_from.Goals as goal

pub returns-then-n-from : goal.returns-then-n-from
returns-then-n-from c = digits_all _ _ c.if-n-from.true

pub returns-then-n-from-ge64 : goal.returns-then-n-from-ge64
returns-then-n-from-ge64 c = digits_none _ _ c.if-n-from-ge64.true

pub overflow_sub-result-2 : goal.overflow_sub-result-2
overflow_sub-result-2 c =
    let a = c.args in
    let h : a.n - a.from < 64 = omega (arith, c.if-n-from-ge64.false) in
    omega (arith, one_shifted (a.n - a.from) h, pow_pos (a.n - a.from))

pub returns : goal.returns
returns c =
    let a = c.args in
    let h : a.n - a.from < 64 = omega (arith, c.if-n-from-ge64.false) in
    rw (one_shifted (a.n - a.from) h) (digits_some a.from a.n (omega (arith, c.if-n-from.false)) h)
