-- SPDX-FileCopyrightText: 2026 The PPVM Authors
-- SPDX-License-Identifier: Apache-2.0

-- Contracts between functions: the order of visits, the set bits of a mask of so many lanes from low to high.
use Rattle.std.specs.Prelude.{cond, List, [], ◌∷◌, ◌++◌, ◌≡◌, ℕ, zero, suc, ◌+◌, ◌*◌, ◌-◌, ◌<◌, eqb, Some, None, Option}
use Rattle.word.specs.Word.{bit}
use Rattle.index.specs.declared.Cursor.{Cursor}
use Rattle.index.specs.Index.{flag}

-- d numbers from j on
unfoldable pub up_from : ℕ → ℕ → List ℕ
up_from zero j = []
up_from (suc d) j = j ∷ up_from d (suc j)

-- those at which t is 1
unfoldable pub keep : (ℕ → ℕ) → List ℕ → List ℕ
keep t [] = []
keep t (j ∷ js) = cond (eqb (t j) 1) (j ∷ keep t js) (keep t js)

-- the set bits of a mask at or above j
unfoldable pub flagged : ℕ → List ℕ → ℕ → List ℕ
flagged row mask j = keep (flag mask) (up_from (row * 64 - j) j)

-- the set bits that a cursor leaves to visit
unfoldable pub left : ℕ → List ℕ → Cursor → List ℕ
left row mask c = keep (λ j. bit c.rest (j - c.lane * 64)) (up_from 64 (c.lane * 64)) ++ flagged row mask (c.lane * 64 + 64)

-- a step: the first of those left, and a cursor that leaves the others
abbrev pub Steps : ℕ → List ℕ → Cursor → Option (ℕ × Cursor) → Type 0
Steps row mask c (Some next) = (left row mask c ≡ next.0 ∷ left row mask next.1) × (next.0 < row * 64) × (next.1.lane < row)
Steps row mask c None = left row mask c ≡ []

-- each of a list is below n
unfoldable pub AllBelow : ℕ → List ℕ → Type 0
AllBelow n [] = Unit {0}
AllBelow n (j ∷ js) = (j < n) × AllBelow n js
