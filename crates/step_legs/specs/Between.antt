-- SPDX-FileCopyrightText: 2026 The PPVM Authors
-- SPDX-License-Identifier: Apache-2.0

-- Contracts between functions: what the parts of a leg leave.
use Rattle.std.specs.Prelude.{ℕ, ◌*◌, ◌≡◌, Bool, true, not, ◌&&◌, List, ◌++◌, eqb, Float, take, drop, Result, Ok, Err}
use Rattle.refusal.specs.declared.Refusal.{Refusal}
use Rattle.word.specs.Flat.{word_lanes}
use Rattle.step_parts.specs.declared.taken.Step.{Step}
use Rattle.truncate.specs.Admissions.{Admitting, admit}

-- the admission of a list of so many, to the first places of the basis tables
pub record Admitted (after : Admitting) (places : ℕ) (grownWords : List ℕ) (start : List Float) (r : Result ℕ Refusal) (candWords' placeOrder' placeWork' grownWords' : List ℕ) (start' : List Float) : Type 0 where
  pub answers : r ≡ after.answer
  pub words_are : grownWords' ≡ after.lanes ++ drop (places * word_lanes) grownWords
  pub start_is : start' ≡ after.coeffs ++ drop places start
  pub order_is : placeOrder' ≡ after.order
  pub work_is : placeWork' ≡ after.work
  pub kept_is : candWords' ≡ after.kept

-- where a leakage was refused, its refusal, and no table changed
pub record Stopped (q : Refusal) (candWords placeOrder placeWork grownWords : List ℕ) (start : List Float) (r : Result ℕ Refusal) (candWords' placeOrder' placeWork' grownWords' : List ℕ) (start' : List Float) : Type 0 where
  pub answers : r ≡ Err q
  pub cand_same : candWords' ≡ candWords
  pub order_same : placeOrder' ≡ placeOrder
  pub work_same : placeWork' ≡ placeWork
  pub words_same : grownWords' ≡ grownWords
  pub start_same : start' ≡ start

pub record Enters (leaked : Result ℕ Refusal) (n limit places len : ℕ) (candWords placeOrder placeWork listWords : List ℕ) (listValues : List Float) (grownWords : List ℕ) (start : List Float) (r : Result ℕ Refusal) (candWords' placeOrder' placeWork' grownWords' : List ℕ) (start' : List Float) : Type 0 where
  pub listed : (k : ℕ) → leaked ≡ Ok k
      → Admitted (admit len (take (places * word_lanes) grownWords) (take places start) (take (k * word_lanes) listWords) (take k listValues) placeOrder placeWork candWords n limit) places grownWords start r candWords' placeOrder' placeWork' grownWords' start'
  pub refused : (q : Refusal) → leaked ≡ Err q → Stopped q candWords placeOrder placeWork grownWords start r candWords' placeOrder' placeWork' grownWords' start'

-- what an evolution over so many words answers, as a step
abbrev pub step_from : ℕ → Result ℕ Refusal → Result Step Refusal
step_from entries (Ok k) = Ok (record { entries = entries; products = k })
step_from entries (Err q) = Err q

-- what follows a hop that was refused, or that no word entered and that is to be all: nothing
pub record Follows (hopped : Result ℕ Refusal) (always : Bool) (len : ℕ) (r : Result Step Refusal) (evolved evolved' : List Float) : Type 0 where
  pub turned : (q : Refusal) → hopped ≡ Err q → (r ≡ Err q) × (evolved' ≡ evolved)
  pub stays : (k : ℕ) → hopped ≡ Ok k → (not always && eqb k len) ≡ true → (r ≡ Ok (record { entries = k; products = 0 })) × (evolved' ≡ evolved)
