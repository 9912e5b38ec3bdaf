-- SPDX-FileCopyrightText: 2026 The PPVM Authors
-- SPDX-License-Identifier: Apache-2.0

-- A natural number for each float, with the order of the magnitudes.
use Rattle.std.specs.Prelude.{ℕ, suc, ◌+◌, ◌*◌, ◌/◌, ◌^◌, Bool, false, not, ◌||◌, eqb, Float}
use Rattle.std.specs.Float.{nan, inf, fin, Format}
use Rattle.std.specs.Float.Ieee.{emax, low, up, down}

-- x is a number that is not below zero: either zero, or no minus sign
abbrev pub nonneg : Float → Bool
nonneg nan = false
nonneg (inf s) = not s
nonneg (fin s m e) = not s || eqb m 0

-- The size of x in units of the format's smallest value, 2 ^ -low. An infinity counts as 2 ^ (emax + 1).
unfoldable pub key : Format → Float → ℕ
key f nan = 0
key f (inf s) = 2 ^ (low f + suc (emax f))
key f (fin s m e) = m * up e * (2 ^ low f / down e)
