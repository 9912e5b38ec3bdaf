-- SPDX-FileCopyrightText: 2026 The PPVM Authors
-- SPDX-License-Identifier: Apache-2.0

-- Contracts between functions: what the functions of norm and degree ask for and leave.
use Rattle.std.specs.Prelude.{ℕ, ◌*◌, ◌≤◌, ◌<◌, ◌≡◌, false, cond, List, map, ltb, Float, length, take, Result, Ok, Err}
use Rattle.refusal.specs.declared.Refusal.TheVariants.{TableFull}
use Rattle.refusal.specs.declared.Refusal.{Refusal}
use Rattle.norm.specs.declared.norm.Normed.{Normed}
use Rattle.refusal.specs.Cause.{Answer}
use Rattle.word.specs.Flat.{word_lanes}
use Rattle.word.specs.declared.word.Word.{Word}
use Rattle.model.specs.Stored.{ModelTables}
use Rattle.model.specs.Tested.{test_model}
use Rattle.model.specs.declared.stored.Model.{Model}
use Rattle.rules_by_index.specs.Near.{ModelIndexed}
use Rattle.action.specs.Counts.{most, touched_by}
use Rattle.lent.specs.Words.{max_words, outside_at}
use Rattle.column_norm.specs.Columns.{mean_of, largest, raw_by, diag_by}
use Rattle.column_norm.specs.Between.{BasisSlots, column_norms}

-- a tested model, its index and a mask where there is a word to act on, places for the words of one action, and for each of so many
-- basis words, slotted, a raw and a diagonal
pub record ColumnRoom (m : Model) (t : ModelTables) (hIndex jIndex mask workWords : List ℕ) (workSums : List Float) (room : ℕ) (lanes : List ℕ) (len : ℕ) (heads nexts : List ℕ) (raws diags : List Float) : Type 0 where
  pub tested : test_model m t ≡ Ok tt
  pub indexed : 0 < len → ModelIndexed m t hIndex jIndex
  pub h_rows : 0 < len → 64 * m.qubits ≤ length hIndex
  pub j_rows : 0 < len → 64 * m.qubits ≤ length jIndex
  pub row : 0 < len → 64 ≤ length mask
  pub work_words : word_lanes * room ≤ length workWords
  pub work_sums : 2 * room ≤ length workSums
  pub few : len ≤ max_words
  pub slotted : BasisSlots lanes len heads nexts
  pub inside : (k : ℕ) → k < len → outside_at lanes m.qubits k ≡ false
  pub raws_long : len ≤ length raws
  pub diags_long : len ≤ length diags

-- 13 where one action touches more words than there is room for
abbrev pub room_for : ℕ → Model → ModelTables → List Word → Answer
room_for room m t ps = cond (ltb room (most (touched_by m t) ps)) (Err (TableFull 1 room)) (Ok tt)

-- what filling the columns answers, and leaves in the two tables
pub record Fills (room : ℕ) (m : Model) (t : ModelTables) (ps : List Word) (len : ℕ) (raws diags : List Float) (r : Answer) : Type 0 where
  pub answers : r ≡ room_for room m t ps
  pub raws_are : r ≡ Ok tt → take len raws ≡ map (raw_by m t ps) ps
  pub diags_are : r ≡ Ok tt → take len diags ≡ map (diag_by m t) ps

-- mean and largest norm, from raws and diagonals side by side
abbrev pub norm_from : Answer → List Float → List Float → Result Normed Refusal
norm_from (Err r) raws diags = Err r
norm_from (Ok _) raws diags = Ok (record { mu = mean_of diags; norm = (largest (column_norms (mean_of diags) raws diags)) })
