-- SPDX-FileCopyrightText: 2026 The PPVM Authors
-- SPDX-License-Identifier: Apache-2.0

-- The thresholds of Al-Mohy and Higham (2011): up to threshold the Taylor polynomial of degree m is good enough, at double
-- precision and at the tolerance 1e-6.
use Rattle.std.specs.Prelude.{ℕ, ◌^◌, false, List, [], ◌∷◌, Float}
use Rattle.std.specs.Float.{binary64}
use Rattle.std.specs.Float.Ieee.{round}

pub record Row : Type 0 where
  pub m : ℕ
  pub threshold : Float

abbrev pub row : ℕ → Float → Row
row m x = record { m = m; threshold = x }

-- digits over 10 ^ places, rounded once: 2.29e-16 is decimal 229 18
abbrev pub decimal : ℕ → ℕ → Float
decimal digits places = round binary64 false digits (10 ^ places)

unfoldable pub theta : List Row
theta =
    row 1 (decimal 229 18)
    ∷ row 2 (decimal 258 10)
    ∷ row 3 (decimal 139 7)
    ∷ row 4 (decimal 340 6)
    ∷ row 5 (decimal 240 5)
    ∷ row 6 (decimal 907 5)
    ∷ row 7 (decimal 238 4)
    ∷ row 8 (decimal 500 4)
    ∷ row 9 (decimal 896 4)
    ∷ row 10 (decimal 144 3)
    ∷ row 11 (decimal 214 3)
    ∷ row 12 (decimal 300 3)
    ∷ row 13 (decimal 400 3)
    ∷ row 14 (decimal 514 3)
    ∷ row 15 (decimal 641 3)
    ∷ row 16 (decimal 781 3)
    ∷ row 17 (decimal 931 3)
    ∷ row 18 (decimal 109 2)
    ∷ row 19 (decimal 126 2)
    ∷ row 20 (decimal 144 2)
    ∷ row 21 (decimal 162 2)
    ∷ row 22 (decimal 182 2)
    ∷ row 23 (decimal 201 2)
    ∷ row 24 (decimal 222 2)
    ∷ row 25 (decimal 243 2)
    ∷ row 26 (decimal 264 2)
    ∷ row 27 (decimal 286 2)
    ∷ row 28 (decimal 308 2)
    ∷ row 29 (decimal 331 2)
    ∷ row 30 (decimal 354 2)
    ∷ []

unfoldable pub theta_loose : List Row
theta_loose =
    row 1 (decimal 2000 9)
    ∷ row 2 (decimal 2447 6)
    ∷ row 3 (decimal 2863 5)
    ∷ row 4 (decimal 1025 4)
    ∷ row 5 (decimal 2262 4)
    ∷ row 6 (decimal 3911 4)
    ∷ row 7 (decimal 5866 4)
    ∷ row 8 (decimal 8045 4)
    ∷ row 9 (decimal 1039 3)
    ∷ row 10 (decimal 1285 3)
    ∷ row 11 (decimal 1539 3)
    ∷ row 12 (decimal 1801 3)
    ∷ row 13 (decimal 2067 3)
    ∷ row 14 (decimal 2337 3)
    ∷ row 15 (decimal 2610 3)
    ∷ row 16 (decimal 2885 3)
    ∷ row 17 (decimal 3162 3)
    ∷ row 18 (decimal 3441 3)
    ∷ row 19 (decimal 3721 3)
    ∷ row 20 (decimal 4001 3)
    ∷ row 21 (decimal 4282 3)
    ∷ row 22 (decimal 4564 3)
    ∷ row 23 (decimal 4847 3)
    ∷ row 24 (decimal 5129 3)
    ∷ row 25 (decimal 5412 3)
    ∷ row 26 (decimal 5696 3)
    ∷ row 27 (decimal 5979 3)
    ∷ row 28 (decimal 6263 3)
    ∷ row 29 (decimal 6546 3)
    ∷ row 30 (decimal 6830 3)
    ∷ []
