-- SPDX-FileCopyrightText: 2026 The PPVM Authors
-- SPDX-License-Identifier: Apache-2.0

-- Contracts between functions: what the functions of a pass ask for and leave.
use Rattle.std.specs.Prelude.{ℕ, ◌+◌, ◌*◌, ◌≤◌, ◌<◌, ◌≡◌, List, ◌++◌, map, true, Float, length, get_or, take, Result, Ok, Err}
use Rattle.std.specs.Float.{nan}
use Rattle.refusal.specs.declared.Refusal.{Refusal}
use Rattle.word.specs.Flat.{words, word_lanes}
use Rattle.word.specs.Word.{identity}
use Rattle.number.specs.Floats.{is_finite}
use Rattle.slots.specs.Between.{Slotted}
use Rattle.candidates.specs.Sums.{row}
use Rattle.candidates.specs.Tables.{Rows, candidate_rows}
use Rattle.candidates.specs.Between.{in_word_order, row_at, Standing}
use Rattle.model.specs.Stored.{ModelTables}
use Rattle.lent.specs.Read.{Read, got, refused}
use Rattle.model.specs.Tested.{test_model}
use Rattle.model.specs.declared.stored.Model.{Model}
use Rattle.lent.specs.Between.{AllInside}
use Rattle.rules_by_index.specs.Near.{ModelIndexed}

-- a tested model with its index, and a mask
pub record ModelReady (m : Model) (t : ModelTables) (hIndex jIndex mask : List ℕ) : Type 0 where
  pub tested : test_model m t ≡ Ok tt
  pub indexed : ModelIndexed m t hIndex jIndex
  pub h_rows : 64 * m.qubits ≤ length hIndex
  pub j_rows : 64 * m.qubits ≤ length jIndex
  pub row : 64 ≤ length mask

-- a basis with a coefficient for each word, and a protected list, with the slots of both, one behind the other; the basis words inside the register
pub record BasisReady (n : ℕ) (basis : List ℕ) (coeffs : List Float) (heads nexts protected : List ℕ) : Type 0 where
  pub slots : Slotted (words basis ++ words protected) heads nexts
  pub each : word_lanes * length coeffs ≡ length basis
  pub inside : AllInside basis n

-- places for the words of one action
pub record ActionRoom (room : ℕ) (workWords : List ℕ) (workSums : List Float) : Type 0 where
  pub work_words : word_lanes * room ≤ length workWords
  pub work_sums : 2 * room ≤ length workSums

-- every sum is finite
abbrev pub FiniteRows : Rows → Type 0
FiniteRows t = (k : ℕ) → k < length t → is_finite (get_or t k (row identity nan)).sum ≡ true

-- the answer of a step, and the candidates that stand afterwards, in any order and with their slots
pub record Stood (room : ℕ) (course : Read Rows) (lanes : List ℕ) (sums : List Float) (heads nexts : List ℕ) (r : Result ℕ Refusal) : Type 0 where
  pub held : (n : ℕ) → r ≡ Ok n → Standing room n lanes sums heads nexts × (course ≡ got (in_word_order (candidate_rows n lanes sums)))
  pub stopped : (q : Refusal) → r ≡ Err q → course ≡ refused q

-- the candidates at positions, in their order
abbrev pub rows_at : List ℕ → List Float → List ℕ → Rows
rows_at lanes sums = map (row_at (words lanes) sums)

-- each position has a word and a sum
pub record Placed (lanes : List ℕ) (sums : List Float) (order : List ℕ) : Type 0 where
  pub in_lanes : (i : ℕ) → i < length order → word_lanes * get_or order i 0 + word_lanes ≤ length lanes
  pub in_sums : (i : ℕ) → i < length order → get_or order i 0 < length sums

-- the answer, and the positions of the candidates in word order
pub record Took (room : ℕ) (course : Read Rows) (lanes : List ℕ) (sums : List Float) (order : List ℕ) (r : Result ℕ Refusal) : Type 0 where
  pub held : (n : ℕ) → r ≡ Ok n → (course ≡ got (rows_at lanes sums (take n order))) × (n ≤ room) × Placed lanes sums (take n order)
  pub stopped : (q : Refusal) → r ≡ Err q → course ≡ refused q
