-- SPDX-FileCopyrightText: 2026 The PPVM Authors
-- SPDX-License-Identifier: Apache-2.0

-- A matrix of whole numbers: f64 entries that are Gaussian integers with parts of at most 256.
use Rattle.std.specs.Prelude.{List, [], ◌∷◌}
use Rattle.number.specs.Numbers.{Cx}
use Rattle.number.specs.Floats.{floats}
use Rattle.number.specs.Whole.{whole}
use Rattle.number.specs.Exact.{IsG, Within}

-- entry by entry
abbrev pub WholeEntries : List (Cx floats) → List (Cx whole) → Type 0
WholeEntries [] [] = Unit {0}
WholeEntries [] (g ∷ G) = ⊥
WholeEntries (x ∷ K) [] = ⊥
WholeEntries (x ∷ K) (g ∷ G) = IsG x g × Within 256 g × WholeEntries K G
