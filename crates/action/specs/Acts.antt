-- SPDX-FileCopyrightText: 2026 The PPVM Authors
-- SPDX-License-Identifier: Apache-2.0

-- The action of a lent model on a word: the model's refusals, 11, 13; what is listed, and every lent table afterwards.
use Rattle.std.specs.Prelude.{ℕ, ◌/◌, min, cond, List, [], map, ltb, Float, length, set, replicate, Result, Ok, Err}
use Rattle.refusal.specs.declared.Refusal.{Refusal}
use Rattle.refusal.specs.declared.Refusal.TheVariants.{WordOutsideRegister, TableFull}
use Rattle.refusal.specs.Cause.{Answer}
use Rattle.word.specs.Flat.{lay_word, word_lanes}
use Rattle.word.specs.Register.{reaches}
use Rattle.word.specs.declared.word.Word.{Word}
use Rattle.number.specs.Floats.{floats, float0}
use Rattle.gksl.specs.Table.{put_all_over, without_over}
use Rattle.gksl.specs.Words.{pauli}
use Rattle.model.specs.Stored.{ModelTables}
use Rattle.model.specs.Tested.{test_model}
use Rattle.model.specs.Terms.{Term}
use Rattle.lent.specs.Laid.{laid}
use Rattle.model.specs.declared.stored.Model.{Model}
use Rattle.rule_terms.specs.Adds.{rules_stored}

-- every sum starts at 0; zero sums are among them
unfoldable pub sums_of : Model → ModelTables → Word → List Term
sums_of m t p = put_all_over floats pauli (rules_stored m t p) []

-- those with a real part not equal to 0
abbrev pub listed : List Term → List Term
listed T = without_over floats pauli (λ c. floats.is_zero c.num.re) T

-- in word order
unfoldable pub action_of : Model → ModelTables → Word → List Term
action_of m t p = listed (sums_of m t p)

-- ---- the places of table 1, words touched by one action, and of table 3, entries listed
abbrev pub sum_places : List ℕ → List Float → ℕ
sum_places words sums = min (length words / word_lanes) (length sums / 2)

abbrev pub list_places : List ℕ → List Float → ℕ
list_places words values = min (length words / word_lanes) (length values)

-- ---- what the call answers, and the lent tables afterwards
pub record Acting : Type 0 where
  pub answer : Result ℕ Refusal
  pub out_words : List ℕ
  pub out_values : List Float
  pub work_words : List ℕ
  pub work_sums : List Float

module _ (outWords : List ℕ) (outValues : List Float) (workWords : List ℕ) (workSums : List Float) where
  -- a refusal changes nothing
  abbrev pub refusal : Refusal → Acting
  refusal r = record { answer = Err r; out_words = outWords; out_values = outValues; work_words = workWords; work_sums = workSums }

  -- work tables are zero after acceptance and 13
  abbrev pub full : ℕ → ℕ → Acting
  full table places =
      record { answer = Err (TableFull table places); out_words = outWords; out_values = outValues; work_words = replicate (length workWords) 0; work_sums = replicate (length workSums) float0 }

  abbrev pub listing : List Term → Acting
  listing L = record {
    answer = Ok (length L);
    out_words = laid lay_word 0 (map (λ c. c.word) L) outWords;
    out_values = laid set 0 (map (λ c. c.num.re) L) outValues;
    work_words = replicate (length workWords) 0;
    work_sums = replicate (length workSums) float0;
  }

  abbrev pub tested : Answer → Acting → Acting
  tested (Ok _) after = after
  tested (Err r) after = refusal r

  unfoldable pub act : Model → ModelTables → Word → Acting
  act m t p =
      tested (test_model m t)
      (cond (reaches p m.qubits) (refusal (WordOutsideRegister 0))
      (cond (ltb (sum_places workWords workSums) (length (sums_of m t p))) (full 1 (sum_places workWords workSums))
      (cond (ltb (list_places outWords outValues) (length (action_of m t p))) (full 3 (list_places outWords outValues))
      (listing (action_of m t p)))))
