-- SPDX-FileCopyrightText: 2026 The PPVM Authors
-- SPDX-License-Identifier: Apache-2.0

-- Statements between laws: floats, and complex numbers of them, that are bounded by a whole number, and by a power of two.
use Rattle.std.specs.Prelude.{ℕ, ◌*◌, ◌^◌, ◌≤◌, Float}
use Rattle.std.specs.Float.{nan, inf, fin}
use Rattle.std.specs.Float.Ieee.{up, down}
use Rattle.number.specs.Numbers.{Cx}
use Rattle.number.specs.Floats.{floats}

-- a finite x, by its sign, digits and exponent: m × 2 ^ e is at most b
abbrev pub Size : ℕ → Float → Type 0
Size b nan = ⊥
Size b (inf s) = ⊥
Size b (fin s m e) = m * up e ≤ b * down e

-- x is finite, and at most the whole number b in magnitude
pub record UpTo (b : ℕ) (x : Float) : Type 0 where
  pub size : Size b x

-- x is finite, and at most 2 ^ k in magnitude
pub record AtMost (k : ℕ) (x : Float) : Type 0 where
  pub size : Size (2 ^ k) x

-- each part is
pub record UpToC (b : ℕ) (x : Cx floats) : Type 0 where
  pub re : UpTo b x.re
  pub im : UpTo b x.im

pub record AtMostC (k : ℕ) (x : Cx floats) : Type 0 where
  pub re : AtMost k x.re
  pub im : AtMost k x.im
