-- SPDX-FileCopyrightText: 2026 The PPVM Authors
-- SPDX-License-Identifier: Apache-2.0

-- Answers about actions in plain numbers.
use Rattle.std.specs.Prelude.{ℕ, ◌≡◌, List, Float, Result, Ok, Err}
use Rattle.refusal.specs.Cause.{status_of, answer_status}
use Rattle.refusal.specs.declared.Refusal.{Refusal}
use Rattle.action.specs.declared.count.Counted.{Counted}
use Rattle.action.specs.Acts.{Acting}
use Rattle.action.specs.Counts.{Counting}
use Rattle.pebblelinen.specs.declared.actions.ListedWords.{ListedWords}
use Rattle.pebblelinen.specs.declared.actions.CountedPlaces.{CountedPlaces}

-- how many words are listed, or the refusal and 0
abbrev pub listed_of : Result ℕ Refusal → ListedWords
listed_of (Ok n) = record { status = answer_status (Ok tt); count = n }
listed_of (Err refusal) = record { status = status_of refusal; count = 0 }

-- what the action answers, and the lent tables afterwards
pub record LeavesList (a : Acting) (r : ListedWords) (outWords : List ℕ) (outValues : List Float) (workWords : List ℕ) (workSums : List Float) : Type 0 where
  pub answers : r ≡ listed_of a.answer
  pub out_words : outWords ≡ a.out_words
  pub out_values : outValues ≡ a.out_values
  pub work_words : workWords ≡ a.work_words
  pub work_sums : workSums ≡ a.work_sums

-- the most words that one action touches and lists, or the refusal and 0
abbrev pub counted_of : Result Counted Refusal → CountedPlaces
counted_of (Ok counted) = record { status = answer_status (Ok tt); touched = counted.touched; listed = counted.listed }
counted_of (Err refusal) = record { status = status_of refusal; touched = 0; listed = 0 }

-- what counting answers, and the lent tables afterwards
pub record LeavesCount (a : Counting) (r : CountedPlaces) (hIndex jIndex mask workWords : List ℕ) (workSums : List Float) : Type 0 where
  pub answers : r ≡ counted_of a.answer
  pub h_index : hIndex ≡ a.h_index
  pub j_index : jIndex ≡ a.j_index
  pub mask_is : mask ≡ a.mask
  pub work_words : workWords ≡ a.work_words
  pub work_sums : workSums ≡ a.work_sums
