-- SPDX-FileCopyrightText: 2026 The PPVM Authors
-- SPDX-License-Identifier: Apache-2.0

-- Contracts between functions: what the functions that stage entries ask for, answer and leave.
use Rattle.std.specs.Prelude.{ℕ, suc, ◌<◌, ◌≤◌, ◌*◌, ◌≡◌, List, [], ◌∷◌, Float, length, get_or, Bool, true, ◌&&◌, cond, eqb, ltb, Option, Some, None, Result, Ok}
use Rattle.word.specs.Word.{identity}
use Rattle.word.specs.declared.word.Word.{Word}
use Rattle.model.specs.Terms.{Term}
use Rattle.columns.specs.Columns.{place_in}
use Rattle.slots.specs.Between.{Slotted}
use Rattle.refusal.specs.declared.Refusal.{Refusal}
use Rattle.refusal.specs.Cause.{Answer}
use Rattle.word.specs.Flat.{words, word_lanes}
use Rattle.model.specs.Stored.{ModelTables}
use Rattle.model.specs.Tested.{test_model}
use Rattle.model.specs.declared.stored.Model.{Model}
use Rattle.rules_by_index.specs.Near.{ModelIndexed}
use Rattle.lent.specs.Between.{AllInside}
use Rattle.columns.specs.Entries.{Entry, staged}
use Rattle.order.specs.Members.{Member}
use Rattle.columns.specs.Repeats.{first_repeat}
use Rattle.columns.specs.Stages.{answered}

-- a term of the action on the word at column c whose word stands at row r, with its real part
pub record Entered (act : Word → List Term) (bs : List Word) (r c : ℕ) (v : Float) : Type 0 where
  pub low : c < length bs
  pub term : Term
  pub reached : Member term (act (get_or bs c identity))
  pub place : place_in bs term.word ≡ suc r
  pub value : v ≡ term.num.re

unfoldable pub all_zero : List ℕ → Bool
all_zero [] = true
all_zero (x ∷ l) = eqb x 0 && all_zero l

-- the slots as they were where a word comes again, else laid
pub record LaysDistinct (ws : List Word) (heads nexts heads' nexts' : List ℕ) (r : ℕ) : Type 0 where
  pub first : r ≡ first_repeat ws
  pub unchanged : r < length ws → (heads' ≡ heads) × (nexts' ≡ nexts)
  pub slots : length ws ≤ r → Slotted ws heads' nexts'

-- a tested model with its index, and a mask
pub record ModelReady (m : Model) (t : ModelTables) (hIndex jIndex mask : List ℕ) : Type 0 where
  pub tested : test_model m t ≡ Ok tt
  pub indexed : ModelIndexed m t hIndex jIndex
  pub h_rows : 64 * m.qubits ≤ length hIndex
  pub j_rows : 64 * m.qubits ≤ length jIndex
  pub row : 64 ≤ length mask

-- a basis inside the register with its slots, its positions numbers of 32 bits
pub record BasisReady (n : ℕ) (basis heads nexts : List ℕ) : Type 0 where
  pub slots : Slotted (words basis) heads nexts
  pub inside : AllInside basis n
  pub few : length (words basis) < 4294967296

-- places for the words of one action
pub record SumRoom (room : ℕ) (workWords : List ℕ) (workSums : List Float) : Type 0 where
  pub words_long : word_lanes * room ≤ length workWords
  pub sums_long : 2 * room ≤ length workSums

-- places for entries
pub record StageRoom (room : ℕ) (rows columns : List ℕ) (values : List Float) : Type 0 where
  pub rows_long : room ≤ length rows
  pub columns_long : room ≤ length columns
  pub values_long : room ≤ length values

-- Full where there are more entries than places, else how many stand
abbrev pub answer : ℕ → List Entry → Option ℕ
answer room E = cond (ltb room (length E)) None (Some (length E))

-- what laying entries behind those that stand answers and leaves
pub record Lays (room : ℕ) (E : List Entry) (rows columns : List ℕ) (values : List Float) (r : Option ℕ) : Type 0 where
  pub answers : r ≡ answer room E
  pub held : (n : ℕ) → r ≡ Some n → staged n rows columns values ≡ E

-- what laying all columns answers and leaves
pub record Stages (tests : Answer) (E : List Entry) (rows columns : List ℕ) (values : List Float) (r : Result ℕ Refusal) : Type 0 where
  pub answers : r ≡ answered tests (length E)
  pub held : (n : ℕ) → r ≡ Ok n → staged n rows columns values ≡ E
