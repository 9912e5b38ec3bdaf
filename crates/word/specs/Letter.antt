-- SPDX-FileCopyrightText: 2026 The PPVM Authors
-- SPDX-License-Identifier: Apache-2.0

-- The letter table. A letter is known by its code, I 0, X 1, Z 2, Y 3; a phase k stands for the factor i^k.
use Rattle.std.specs.Prelude.{ℕ, List, [], ◌∷◌, get_or}

-- the letter of a product: a row for each left letter, a column for each right one, both in the order I X Z Y
abbrev pub letter_table : List (List ℕ)
letter_table =
    (0 ∷ 1 ∷ 2 ∷ 3 ∷ []) ∷
    (1 ∷ 0 ∷ 3 ∷ 2 ∷ []) ∷
    (2 ∷ 3 ∷ 0 ∷ 1 ∷ []) ∷
    (3 ∷ 2 ∷ 1 ∷ 0 ∷ []) ∷ []

-- its phase: X Y = i Z, Y Z = i X, Z X = i Y, and the other way round - i
abbrev pub phase_table : List (List ℕ)
phase_table =
    (0 ∷ 0 ∷ 0 ∷ 0 ∷ []) ∷
    (0 ∷ 0 ∷ 3 ∷ 1 ∷ []) ∷
    (0 ∷ 1 ∷ 0 ∷ 3 ∷ []) ∷
    (0 ∷ 3 ∷ 1 ∷ 0 ∷ []) ∷ []

unfoldable pub mul_letter : ℕ → ℕ → ℕ
mul_letter l m = get_or (get_or letter_table l []) m 0

unfoldable pub mul_phase : ℕ → ℕ → ℕ
mul_phase l m = get_or (get_or phase_table l []) m 0
