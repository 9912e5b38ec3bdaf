-- SPDX-FileCopyrightText: 2026 The PPVM Authors
-- SPDX-License-Identifier: Apache-2.0

-- Contracts between functions: the product of two operators in a work table.
use Rattle.std.specs.Prelude.{ℕ, ◌+◌, ◌-◌, ◌*◌, ◌%◌, ◌≤◌, ◌<◌, ◌≡◌, List, Float, length, drop}
use Rattle.word.specs.Flat.{word_lanes}
use Rattle.word.specs.Product.{phase}
use Rattle.word.specs.Product as Words
use Rattle.number.specs.Numbers.{mul_c, unit_c}
use Rattle.number.specs.Floats.{floats}
use Rattle.gksl.specs.Operator.{Onto}
use Rattle.gksl.specs.Rules.{bare, on_word}
use Rattle.gksl.specs.Table.{put_all_over}
use Rattle.gksl.specs.Words.{pauli}
use Rattle.sums.specs.Sums.{sum_rows, Rising}
use Rattle.model.specs.declared.stored.Range.{Range}

-- the conjugate of a's number × b's number × i^phase, onto a·b
unfoldable pub formed_term : Onto floats pauli → Onto floats pauli → Onto floats pauli
formed_term a b = on_word floats pauli (mul_c floats (bare floats pauli a b) (unit_c floats (phase a.word b.word % 4))) (Words.mul a.word b.word)

-- a work table with so many sums and a place for one more
pub record SumRoom (count : ℕ) (lanes : List ℕ) (numbers : List Float) : Type 0 where
  pub lanes_long : word_lanes * 256 ≤ length lanes
  pub numbers_long : 512 ≤ length numbers
  pub room : count < 256
  pub rises : Rising (sum_rows count lanes numbers)

-- one with terms past the places of the sums, and a place for the product with each of them
pub record RowRoom (len start end : ℕ) (lanes : List ℕ) (numbers : List Float) : Type 0 where
  pub past : 256 ≤ start
  pub order : start ≤ end
  pub lanes_long : word_lanes * end ≤ length lanes
  pub numbers_long : 2 * end ≤ length numbers
  pub room : len + (end - start) ≤ 256
  pub rises : Rising (sum_rows len lanes numbers)

-- one with the terms of two operators past the places of the sums, and a place for each product
pub record PairRoom (left right : Range) (lanes : List ℕ) (numbers : List Float) : Type 0 where
  pub left_past : 256 ≤ left.start
  pub left_order : left.start ≤ left.end
  pub right_past : 256 ≤ right.start
  pub right_order : right.start ≤ right.end
  pub lanes_long : (word_lanes * left.end ≤ length lanes) × (word_lanes * right.end ≤ length lanes)
  pub numbers_long : (2 * left.end ≤ length numbers) × (2 * right.end ≤ length numbers)
  pub few : (left.end - left.start ≤ 16) × (right.end - right.start ≤ 16)

-- terms put to the sums one by one; what stands past the places of the sums stays
pub record Forms (terms : List (Onto floats pauli)) (len : ℕ) (lanes : List ℕ) (numbers : List Float) (r : ℕ) (lanes' : List ℕ) (numbers' : List Float) : Type 0 where
  pub sums : sum_rows r lanes' numbers' ≡ put_all_over floats pauli terms (sum_rows len lanes numbers)
  pub count : length (put_all_over floats pauli terms (sum_rows len lanes numbers)) ≡ r
  pub lanes_stay : drop (word_lanes * 256) lanes' ≡ drop (word_lanes * 256) lanes
  pub numbers_stay : drop 512 numbers' ≡ drop 512 numbers
