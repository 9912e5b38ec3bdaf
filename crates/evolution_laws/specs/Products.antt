-- SPDX-FileCopyrightText: 2026 The PPVM Authors
-- SPDX-License-Identifier: Apache-2.0

-- The number of products of an accepted evolution: none for an empty basis, else m × s of the pair chosen for |dt| × norm, which is not above the
-- ceiling.
use Rattle.std.specs.Prelude.{ℕ, ◌*◌, ◌≤◌, ◌≡◌, Float, Ok}
use Rattle.number.specs.Floats.{floats, magnitude}
use Rattle.expm.specs.Selects.{chosen, max_products}
use Rattle.expm.specs.declared.Degree.{Degree}

pub data Took (count : ℕ) (dt norm dropTol : Float) (products : ℕ) : Type 0 where
  none : count ≡ 0 → products ≡ 0 → Took count dt norm dropTol products
  stages : (d : Degree) → chosen dropTol (floats.times (magnitude dt) norm) ≡ Ok d → products ≡ d.m * d.s → products ≤ max_products → Took count dt norm dropTol products
