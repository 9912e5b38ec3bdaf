-- SPDX-FileCopyrightText: 2026 The PPVM Authors
-- SPDX-License-Identifier: Apache-2.0

-- A value as a whole count of 2^−32: the count nearest to its exact value, halves away from zero; and which counts are too large to be
-- written.
use Rattle.std.specs.Prelude.{ℕ, ◌+◌, ◌*◌, ◌/◌, ◌^◌, Bool, true, ℤ, pos, nat_le, unsigned_abs, Float}
use Rattle.std.specs.Float.{nan, inf, fin}
use Rattle.std.specs.Float.Ieee.{up, down}
use Rattle.number.specs.Exact.{signed}

-- the whole number nearest to num / den; of two that are as near, the larger
unfoldable pub nearest : ℕ → ℕ → ℕ
nearest num den = (2 * num + den) / (2 * den)

-- fin s m e is m × 2^e, below zero where s is true; 2^e is up e / down e. A NaN and the infinities have no count, and 0 stands for it.
unfoldable pub count_of : Float → ℤ
count_of nan = pos 0
count_of (inf s) = pos 0
count_of (fin s m e) = signed s (nearest (m * up e * 2 ^ 32) (down e))

-- a count of 2^62 or more in magnitude; a NaN and the infinities are too large as well
unfoldable pub too_large : Float → Bool
too_large nan = true
too_large (inf s) = true
too_large (fin s m e) = nat_le (2 ^ 62) (unsigned_abs (count_of (fin s m e)))
