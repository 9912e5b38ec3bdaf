-- SPDX-FileCopyrightText: 2026 The PPVM Authors
-- SPDX-License-Identifier: Apache-2.0

-- Entries of a matrix, and those that three tables hold side by side.
use Rattle.std.specs.Prelude.{ℕ, List, [], ◌∷◌, Float, take}

pub record Entry : Type 0 where
  pub row : ℕ
  pub column : ℕ
  pub value : Float

abbrev pub entry : ℕ → ℕ → Float → Entry
entry r c v = record { row = r; column = c; value = v }

unfoldable pub entries : List ℕ → List ℕ → List Float → List Entry
entries [] cs vs = []
entries (r ∷ rs) [] vs = []
entries (r ∷ rs) (c ∷ cs) [] = []
entries (r ∷ rs) (c ∷ cs) (v ∷ vs) = entry r c v ∷ entries rs cs vs

-- the first n of them
abbrev pub staged : ℕ → List ℕ → List ℕ → List Float → List Entry
staged n rs cs vs = take n (entries rs cs vs)
