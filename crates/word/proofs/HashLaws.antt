-- SPDX-FileCopyrightText: 2026 The PPVM Authors
-- SPDX-License-Identifier: Apache-2.0

-- A half of a lane times a number below 2^32 stays in range, and lanes of 0 add nothing. Assumes nothing.
use mathlib.Core.Path.{◌≡◌}
use Prim.Native.Nat.{ℕ, ◌*◌, ◌<◌, ◌≤◌}
use native.Mathlib.Nat.{mul-le-mul}
use native.Mathlib.Omega.{arith}
use lib.Bits.{bit_or}
use Rattle.word.specs.Hash.{half, lane_hash, upper_hash}
use Rattle.word.proofs.Tests.{or_zero}

pub half_times : (a b : ℕ) → a < half → b < half → a * b < half * half
half_times a b h l = let p : a * b ≤ 4294967295 * 4294967295 = mul-le-mul {n₂ = 4294967295} {m₂ = 4294967295} (omega arith) (omega arith) in omega (arith, p)

pub upper_none : (a b c d : ℕ) → bit_or (bit_or a b) (bit_or c d) ≡ 0 → 0 ≡ upper_hash a b c d
unfolding upper_hash lane_hash
upper_none a b c d h =
    let l = or_zero (bit_or a b) (bit_or c d) h in
    let x = or_zero a b l.0 in
    let z = or_zero c d l.1 in
    rw (x.0, x.1, z.0, z.1)
