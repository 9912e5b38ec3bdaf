-- SPDX-FileCopyrightText: 2026 The PPVM Authors
-- SPDX-License-Identifier: Apache-2.0

-- Contracts between functions: what the functions of the call ask for and leave.
use Rattle.std.specs.Prelude.{ℕ, ◌+◌, ◌*◌, ◌/◌, ◌≤◌, ◌≡◌, List, ◌++◌, Float, length, take, Result, Ok, Err}
use Rattle.word.specs.Flat.{words, word_lanes}
use Rattle.order.specs.Magnitudes.{by_magnitude}
use Rattle.slots.specs.Between.{Slotted}
use Rattle.candidates.specs.Tables.{Rows}
use Rattle.lent.specs.Read.{Read, got, refused}
use Rattle.refusal.specs.declared.Refusal.{Refusal}
use Rattle.passes.specs.Between.{rows_at, Placed}

-- a word, a coefficient and a place of each table for each of so many positions, places for the protected words behind them, and at least as many slots
pub record BasisLent (len : ℕ) (lanes : List ℕ) (coeffs : List Float) (protected order heads nexts : List ℕ) : Type 0 where
  pub lanes_long : len ≤ length lanes / word_lanes
  pub coeffs_long : len ≤ length coeffs
  pub order_long : len ≤ length order
  pub nexts_long : len + length protected / word_lanes ≤ length nexts
  pub slots_enough : len + length protected / word_lanes ≤ length heads

-- positions in falling magnitude, and the slots of the basis words and of the protected ones behind them
pub record BasisLaid (len : ℕ) (lanes : List ℕ) (coeffs : List Float) (protected order heads nexts : List ℕ) : Type 0 where
  pub order_is : take len order ≡ by_magnitude (take len coeffs)
  pub slots : Slotted (words (take (len * word_lanes) lanes) ++ words protected) heads (take (len + length protected / word_lanes) nexts)

-- the candidates that a step left in lent tables, at positions in their order
abbrev pub step_rows : Result ℕ Refusal → List ℕ → List Float → List ℕ → Read Rows
step_rows (Ok n) lanes sums order = got (rows_at lanes sums (take n order))
step_rows (Err r) lanes sums order = refused r

-- as many positions as a step says that it holds, each with a word and a sum
pub record HeldInside (r : Result ℕ Refusal) (lanes : List ℕ) (sums : List Float) (order : List ℕ) : Type 0 where
  pub inside : (n : ℕ) → r ≡ Ok n → (n ≤ length order) × Placed lanes sums (take n order)
