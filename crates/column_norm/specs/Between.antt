-- SPDX-FileCopyrightText: 2026 The PPVM Authors
-- SPDX-License-Identifier: Apache-2.0

-- Contracts between functions: the slots of a lent basis, and norms of columns side by side.
use Rattle.std.specs.Prelude.{ℕ, ◌*◌, ◌≤◌, List, [], ◌∷◌, Float, length, take}
use Rattle.word.specs.Flat.{words, word_lanes}
use Rattle.slots.specs.Between.{Slotted}
use Rattle.column_norm.specs.Columns.{column_norm}

-- the slots of the first so many words
pub record BasisSlots (lanes : List ℕ) (len : ℕ) (heads nexts : List ℕ) : Type 0 where
  pub lanes_long : word_lanes * len ≤ length lanes
  pub nexts_long : len ≤ length nexts
  pub slots : Slotted (take len (words lanes)) heads (take len nexts)

-- the column norms of raws and diagonals side by side
unfoldable pub column_norms : Float → List Float → List Float → List Float
column_norms mu [] ds = []
column_norms mu (r ∷ rs) [] = []
column_norms mu (r ∷ rs) (d ∷ ds) = column_norm mu r d ∷ column_norms mu rs ds
