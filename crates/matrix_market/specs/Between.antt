-- SPDX-FileCopyrightText: 2026 The PPVM Authors
-- SPDX-License-Identifier: Apache-2.0

-- Contracts between functions: a count by its sign and size, and tables with places for so many entries.
use Rattle.std.specs.Prelude.{◌≡◌, ℕ, ◌^◌, ◌<◌, ◌≤◌, false, cond, List, ◌∷◌, length, Float}
use Rattle.matrix_market.specs.Counts.{count_of}
use Rattle.matrix_market.specs.Text.{natural, whole, minus}
use Rattle.matrix_market.specs.Writes.{large_at}
use Rattle.matrix_market.specs.declared.count.Count.{Count}

-- the bytes of a count
abbrev pub count_text : Count → List ℕ
count_text c = cond c.minus (minus ∷ natural c.size) (natural c.size)

pub record Counts (x : Float) (c : Count) : Type 0 where
  pub text_is : count_text c ≡ whole (count_of x)
  pub small : c.size < 2 ^ 62

-- places for so many entries, none of them too large
pub record Entries (count : ℕ) (rows columns : List ℕ) (values : List Float) : Type 0 where
  pub rows_long : count ≤ length rows
  pub columns_long : count ≤ length columns
  pub values_long : count ≤ length values
  pub small : (k : ℕ) → k < count → large_at values k ≡ false
