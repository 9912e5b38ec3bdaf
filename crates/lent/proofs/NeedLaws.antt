-- SPDX-FileCopyrightText: 2026 The PPVM Authors
-- SPDX-License-Identifier: Apache-2.0

-- What a table needs where there may be nothing that uses a place. Assumes nothing.
use mathlib.Core.Path.{◌≡◌, refl}
use Prim.Native.Nat.{ℕ, zero, suc, ◌≤◌, ◌<◌}
use native.Mathlib.Omega.{arith}
use Rattle.lent.specs.Tests.{where_any}

-- where there is one, all of it
pub need_is : (count places : ℕ) → 0 < count → where_any count places ≡ places
unfolding where_any
need_is zero places h = absurd (omega arith)
need_is (suc count) places h = refl

pub need_some : (count places have : ℕ) → 0 < count → where_any count places ≤ have → places ≤ have
unfolding where_any
need_some zero places have h e = absurd (omega arith)
need_some (suc count) places have h e = e

-- never more
pub need_most : (count places : ℕ) → where_any count places ≤ places
unfolding where_any
need_most zero places = omega arith
need_most (suc count) places = omega arith

-- for more, no fewer
pub need_mono : (count more places few : ℕ) → count ≤ more → few ≤ places → where_any count few ≤ where_any more places
unfolding where_any
need_mono zero more places few h e = omega arith
need_mono (suc count) zero places few h e = absurd (omega arith)
need_mono (suc count) (suc more) places few h e = e
