-- SPDX-FileCopyrightText: 2026 The PPVM Authors
-- SPDX-License-Identifier: Apache-2.0

-- The complex numbers that a flat list of floats holds: the real part, then the imaginary part, for each number in turn.
use Rattle.std.specs.Prelude.{ℕ, ◌+◌, ◌*◌, List, [], ◌∷◌, Float, set}
use Rattle.std.specs.Float.{nan}
use Rattle.number.specs.Numbers.{Cx}
use Rattle.number.specs.Floats.{floats}

unfoldable pub complexes : List Float → List (Cx floats)
complexes [] = []
complexes (a ∷ []) = []
complexes (a ∷ b ∷ rest) = record { re = a; im = b } ∷ complexes rest

-- what stands past the end
abbrev pub no_number : Cx floats
no_number = record { re = nan; im = nan }

-- the floats with a complex number laid at place i
abbrev pub lay_number : List Float → ℕ → Cx floats → List Float
lay_number l i z = set (set l (i * 2) z.re) (i * 2 + 1) z.im
