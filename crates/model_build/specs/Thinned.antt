-- SPDX-FileCopyrightText: 2026 The PPVM Authors
-- SPDX-License-Identifier: Apache-2.0

-- Contracts between functions: thinning a product, and terms laid into the terms table one after another.
use Rattle.std.specs.Prelude.{ℕ, ◌+◌, ◌-◌, ◌*◌, ◌≤◌, ◌≡◌, List, map, Float, length}
use Rattle.word.specs.Flat.{lay_word, word_lanes}
use Rattle.number.specs.Numbers.{square}
use Rattle.number.specs.Floats.{floats}
use Rattle.gksl.specs.Operator.{Onto}
use Rattle.gksl.specs.Table.{without_over}
use Rattle.gksl.specs.Words.{pauli}
use Rattle.sums.specs.Numbers.{lay_number}
use Rattle.sums.specs.Sums.{sum_rows}
use Rattle.lent.specs.Laid.{laid}

-- words whose number has a squared magnitude of at most (1e-14 × 1e-14) are dropped
abbrev pub thinned : List (Onto floats pauli) → List (Onto floats pauli)
thinned T = without_over floats pauli (λ c. floats.small (square floats c.num)) T

pub record LaysTerms (terms : List (Onto floats pauli)) (at : ℕ) (lanes : List ℕ) (numbers : List Float) (lanes' : List ℕ) (numbers' : List Float) : Type 0 where
  pub lanes_are : lanes' ≡ laid lay_word at (map (λ t. t.word) terms) lanes
  pub numbers_are : numbers' ≡ laid lay_number at (map (λ t. t.num) terms) numbers

-- room for the terms from one place to another
pub record StoreRoom (from to : ℕ) (lanes : List ℕ) (numbers : List Float) (at : ℕ) (tLanes : List ℕ) (tNumbers : List Float) : Type 0 where
  pub order : from ≤ to
  pub lanes_long : word_lanes * to ≤ length lanes
  pub numbers_long : 2 * to ≤ length numbers
  pub lanes_room : word_lanes * (at + (to - from)) ≤ length tLanes
  pub numbers_room : 2 * (at + (to - from)) ≤ length tNumbers

-- room for the sums that thinning leaves
pub record KeepRoom (len : ℕ) (lanes : List ℕ) (numbers : List Float) (at : ℕ) (tLanes : List ℕ) (tNumbers : List Float) : Type 0 where
  pub lanes_long : word_lanes * len ≤ length lanes
  pub numbers_long : 2 * len ≤ length numbers
  pub lanes_room : word_lanes * (at + length (thinned (sum_rows len lanes numbers))) ≤ length tLanes
  pub numbers_room : 2 * (at + length (thinned (sum_rows len lanes numbers))) ≤ length tNumbers

pub record Keeps (terms : List (Onto floats pauli)) (at : ℕ) (lanes : List ℕ) (numbers : List Float) (r : ℕ) (lanes' : List ℕ) (numbers' : List Float) : Type 0 where
  pub end : r ≡ at + length terms
  pub lays : LaysTerms terms at lanes numbers lanes' numbers'
