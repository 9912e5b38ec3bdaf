-- SPDX-FileCopyrightText: 2026 The PPVM Authors
-- SPDX-License-Identifier: Apache-2.0

-- Which entries a prune keeps: those of at least the tolerance in magnitude, and those flagged before.
use Rattle.std.specs.Prelude.{ℕ, cond, List, [], ◌∷◌, eqb, Float}
use Rattle.std.specs.Float.Ieee.{le}
use Rattle.number.specs.Floats.{magnitude}

unfoldable pub large_flag : Float → Float → ℕ → ℕ
large_flag tol x k = cond (eqb k 0) (cond (le tol (magnitude x)) 1 0) 1

-- a flag for each number; the flags past the numbers stay
unfoldable pub large_flags : Float → List Float → List ℕ → List ℕ
large_flags tol [] ks = ks
large_flags tol (x ∷ xs) [] = []
large_flags tol (x ∷ xs) (k ∷ ks) = large_flag tol x k ∷ large_flags tol xs ks
