-- SPDX-FileCopyrightText: 2026 The PPVM Authors
-- SPDX-License-Identifier: Apache-2.0

-- Contracts between functions: what the functions of both calls ask for, and what the tables hold.
use Rattle.std.specs.Prelude.{ℕ, ◌≤◌, ◌*◌, ◌≡◌, List, Float, length, Result, Ok}
use Rattle.model.specs.Stored.{ModelTables}
use Rattle.model.specs.declared.stored.Model.{Model}
use Rattle.refusal.specs.declared.Refusal.{Refusal}
use Rattle.csr_build.specs.Sorts.{Rowed}
use Rattle.word.specs.Flat.{word_lanes}
use Rattle.model.specs.Tested.{test_model}
use Rattle.lent.specs.Words.{max_words}
use Rattle.columns.specs.Between.{StageRoom}
use Rattle.lent.specs.Between.{AllInside}

-- places for as many as they say, in tables of entries
pub record HeldInside (r : Result ℕ Refusal) (rows columns : List ℕ) (values : List Float) : Type 0 where
  pub inside : (n : ℕ) → r ≡ Ok n → StageRoom n rows columns values

-- each of them in one of n rows, and places for them
pub record HeldRows (n : ℕ) (r : Result ℕ Refusal) (stageRows stageColumns : List ℕ) (stageValues : List Float) (columns : List ℕ) (values : List Float) : Type 0 where
  pub rowed : (k : ℕ) → r ≡ Ok k → Rowed n k stageRows stageColumns stageValues
  pub columns_long : (k : ℕ) → r ≡ Ok k → k ≤ length columns
  pub values_long : (k : ℕ) → r ≡ Ok k → k ≤ length values

-- a tested model, and places for its index and a mask
pub record ModelLent (m : Model) (t : ModelTables) (hIndex jIndex mask : List ℕ) : Type 0 where
  pub accepted : test_model m t ≡ Ok tt
  pub h_rows : 64 * m.qubits ≤ length hIndex
  pub j_rows : 64 * m.qubits ≤ length jIndex
  pub row : 64 ≤ length mask

-- a basis of so many words inside the register, with places for their slots
pub record BasisLent (n len : ℕ) (lanes heads nexts : List ℕ) : Type 0 where
  pub each : length lanes ≡ len * word_lanes
  pub few : len ≤ max_words
  pub inside : AllInside lanes n
  pub heads_long : len ≤ length heads
  pub nexts_long : len ≤ length nexts
