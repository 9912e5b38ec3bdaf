-- SPDX-FileCopyrightText: 2026 The PPVM Authors
-- SPDX-License-Identifier: Apache-2.0

-- Contracts between functions: K with its largest square, and operators in the work table.
use Rattle.std.specs.Prelude.{ℕ, ◌+◌, ◌-◌, ◌*◌, ◌≤◌, ◌≡◌, List, Float, length, get_or, drop}
use Rattle.refusal.specs.Cause.{Answer}
use Rattle.word.specs.Flat.{word_lanes}
use Rattle.number.specs.Numbers.{Cx, largest_over}
use Rattle.number.specs.Floats.{floats}
use Rattle.sums.specs.Numbers.{complexes}
use Rattle.model.specs.Stored.{ModelTables}
use Rattle.model.specs.Terms.{Term, terms_in}
use Rattle.model_build.specs.Built.{parts}
use Rattle.model_build.specs.Items.{answer_of}
use Rattle.model.specs.declared.stored.Model.{Model}
use Rattle.model.specs.declared.stored.Range.{Range}
use Rattle.k_matrix.specs.Pairs.{compile_pair}
use Rattle.k_matrix.specs.Added.{Input, matrix_tests, read_operators, pairs_test}
use Rattle.lent.specs.Tests.{and_then}
use Rattle.lent.specs.Laid.{total}

-- K of two numbers an entry over at most 64 operators, and its largest squared magnitude
pub record Square (ops : ℕ) (k : List Float) (largest : Float) : Type 0 where
  pub entries_all : length k ≡ 2 * (ops * ops)
  pub few : ops ≤ 64
  pub largest_is : largest ≡ largest_over floats (complexes k)

-- all tests of a matrix but for 13
unfoldable pub matrix_answer : Model → Input → ModelTables → List ℕ → List Float → Answer
matrix_answer m i t workWords workNumbers =
    and_then (matrix_tests m i t workWords workNumbers)
    (and_then (answer_of (read_operators m.qubits i)) (pairs_test m i t workWords workNumbers))

-- ---- operators of at most 16 terms whose terms stand past the places of the sums
pub record OperatorsRoom (counts : List ℕ) (lanes : List ℕ) (numbers : List Float) : Type 0 where
  pub few : (j : ℕ) → get_or counts j 0 ≤ 16
  pub lanes_long : word_lanes * (256 + total counts) ≤ length lanes
  pub numbers_long : 2 * (256 + total counts) ≤ length numbers

abbrev pub operators_in : List ℕ → List ℕ → List Float → List (List Term)
operators_in counts lanes numbers = parts counts (terms_in lanes numbers 256 (256 + total counts))

-- what stands past the places of the sums stays
pub record WorkStays (lanes : List ℕ) (numbers : List Float) (lanes' : List ℕ) (numbers' : List Float) : Type 0 where
  pub lanes_stay : drop (word_lanes * 256) lanes' ≡ drop (word_lanes * 256) lanes
  pub numbers_stay : drop 512 numbers' ≡ drop 512 numbers

-- ---- a pair: room for its factors, and how many terms it has
pub record FactorsRoom (left right : Range) (lanes : List ℕ) (numbers : List Float) (at : ℕ) (tLanes : List ℕ) (tNumbers : List Float) : Type 0 where
  pub left_order : left.start ≤ left.end
  pub right_order : right.start ≤ right.end
  pub lanes_long : (word_lanes * left.end ≤ length lanes) × (word_lanes * right.end ≤ length lanes)
  pub numbers_long : (2 * left.end ≤ length numbers) × (2 * right.end ≤ length numbers)
  pub lanes_room : word_lanes * (at + (left.end - left.start) * (right.end - right.start)) ≤ length tLanes
  pub numbers_room : 2 * (at + (left.end - left.start) * (right.end - right.start)) ≤ length tNumbers

-- how many terms are stored for the pair of A and B, whatever K's entry and the places of the operators
pub record CountsPair (A B : List Term) (r : ℕ) : Type 0 where
  pub counts : (k : Cx floats) (left right : Range) → r ≡ length (compile_pair k left right A B).terms
  pub few : r ≤ 512
