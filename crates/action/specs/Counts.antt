-- SPDX-FileCopyrightText: 2026 The PPVM Authors
-- SPDX-License-Identifier: Apache-2.0

-- How many places the actions of a lent model on many words need: the model's refusals, 8, 9, 11, 13; the answer, and every lent
-- table afterwards.
use Rattle.std.specs.Prelude.{ℕ, ◌*◌, ◌/◌, max, cond, List, [], ◌∷◌, ltb, Float, length, replicate, Result, Ok, Err}
use Rattle.refusal.specs.declared.Refusal.{Refusal}
use Rattle.refusal.specs.declared.Refusal.TheVariants.{TableFull}
use Rattle.action.specs.declared.count.Counted.{Counted}
use Rattle.refusal.specs.Cause.{Answer}
use Rattle.word.specs.Flat.{words, word_lanes}
use Rattle.word.specs.declared.word.Word.{Word}
use Rattle.number.specs.Floats.{float0}
use Rattle.lent.specs.Words.{inside_to, max_words}
use Rattle.model.specs.Stored.{ModelTables}
use Rattle.model.specs.Tested.{test_model}
use Rattle.lent.specs.Tests.{counted, lent, where_any, and_then, equal, in_turn}
use Rattle.model.specs.declared.stored.Model.{Model}
use Rattle.action.specs.Acts.{sums_of, action_of, sum_places}

-- the largest of a number for each word
unfoldable pub most : (Word → ℕ) → List Word → ℕ
most f [] = 0
most f (p ∷ ps) = max (f p) (most f ps)

-- the words that one action touches, zero sums included, and those that it lists
abbrev pub touched_by : Model → ModelTables → Word → ℕ
touched_by m t p = length (sums_of m t p)

abbrev pub listed_by : Model → ModelTables → Word → ℕ
listed_by m t p = length (action_of m t p)

-- 13 where one action touches more words than there is room for
unfoldable pub most_places : ℕ → (Word → ℕ) → (Word → ℕ) → List Word → Result Counted Refusal
most_places room touched listed ps = cond (ltb room (most touched ps)) (Err (TableFull 1 room)) (Ok (record { touched = most touched ps; listed = most listed ps }))

-- the lanes of an index for each qubit, and of a mask
abbrev pub row_lanes : ℕ
row_lanes = 64

-- the model, 8, 9, 11; no words ask for no place
unfoldable pub words_tests : Model → ModelTables → List ℕ → ℕ → ℕ → ℕ → Answer
words_tests m t lanes hIndex jIndex mask =
    in_turn (
    and_then (test_model m t)
    ∷ counted max_words (length lanes / word_lanes)
    ∷ equal (length lanes / word_lanes * word_lanes) (length lanes)
    ∷ lent (where_any (length lanes / word_lanes) (row_lanes * m.qubits)) hIndex
    ∷ lent (where_any (length lanes / word_lanes) (row_lanes * m.qubits)) jIndex
    ∷ lent (where_any (length lanes / word_lanes) row_lanes) mask
    ∷ inside_to (length lanes / word_lanes) lanes m.qubits
    ∷ []) (Ok tt)

-- ---- what the call answers, and the lent tables afterwards
pub record Counting : Type 0 where
  pub answer : Result Counted Refusal
  pub h_index : List ℕ
  pub j_index : List ℕ
  pub mask : List ℕ
  pub work_words : List ℕ
  pub work_sums : List Float

module _ (hIndex jIndex mask workWords : List ℕ) (workSums : List Float) where
  -- a refusal changes nothing
  abbrev pub unchanged : Refusal → Counting
  unchanged r = record { answer = Err r; h_index = hIndex; j_index = jIndex; mask = mask; work_words = workWords; work_sums = workSums }

  -- work tables are zero after acceptance and 13
  abbrev pub zeroed : Result Counted Refusal → Counting
  zeroed r = record {
    answer = r;
    h_index = replicate (length hIndex) 0;
    j_index = replicate (length jIndex) 0;
    mask = replicate (length mask) 0;
    work_words = replicate (length workWords) 0;
    work_sums = replicate (length workSums) float0;
  }

  abbrev pub tested_words : Answer → Counting → Counting
  tested_words (Ok _) after = after
  tested_words (Err r) after = unchanged r

  unfoldable pub count_places : Model → ModelTables → List ℕ → Counting
  count_places m t lanes =
      tested_words (words_tests m t lanes (length hIndex) (length jIndex) (length mask))
      (zeroed (most_places (sum_places workWords workSums) (touched_by m t) (listed_by m t) (words lanes)))
