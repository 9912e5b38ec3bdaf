-- SPDX-FileCopyrightText: 2026 The PPVM Authors
-- SPDX-License-Identifier: Apache-2.0

-- What both calls are lent to work with, and what both ask for: the model, 8, 9, 11, 12.
use Rattle.std.specs.Prelude.{ℕ, suc, ◌*◌, ◌/◌, min, cond, List, [], ◌∷◌, ltb, Float, length, take, replicate, Ok, Err}
use Rattle.refusal.specs.declared.Refusal.TheVariants.{RepeatedBasisWord}
use Rattle.refusal.specs.Cause.{Answer}
use Rattle.word.specs.Flat.{words, word_lanes}
use Rattle.word.specs.declared.word.Word.{Word}
use Rattle.number.specs.Floats.{float0}
use Rattle.model.specs.Stored.{ModelTables}
use Rattle.model.specs.Tested.{test_model}
use Rattle.lent.specs.Tests.{counted, lent, where_any, and_then, in_turn}
use Rattle.lent.specs.Words.{max_words, inside_to}
use Rattle.model.specs.declared.stored.Model.{Model}
use Rattle.action.specs.Counts.{row_lanes}
use Rattle.columns.specs.Repeats.{first_repeat}

pub record Work : Type 0 where
  pub h_index : List ℕ
  pub j_index : List ℕ
  pub mask : List ℕ
  pub heads : List ℕ
  pub nexts : List ℕ
  pub work_words : List ℕ
  pub work_sums : List Float
  pub stage_rows : List ℕ
  pub stage_columns : List ℕ
  pub stage_values : List Float

abbrev pub work_of : List ℕ → List ℕ → List ℕ → List ℕ → List ℕ → List ℕ → List Float → List ℕ → List ℕ → List Float → Work
work_of hIndex jIndex mask heads nexts workWords workSums stageRows stageColumns stageValues = record {
  h_index = hIndex;
  j_index = jIndex;
  mask = mask;
  heads = heads;
  nexts = nexts;
  work_words = workWords;
  work_sums = workSums;
  stage_rows = stageRows;
  stage_columns = stageColumns;
  stage_values = stageValues;
}

abbrev pub zeroed : Work → Work
zeroed w = record {
  h_index = replicate (length w.h_index) 0;
  j_index = replicate (length w.j_index) 0;
  mask = replicate (length w.mask) 0;
  heads = replicate (length w.heads) 0;
  nexts = replicate (length w.nexts) 0;
  work_words = replicate (length w.work_words) 0;
  work_sums = replicate (length w.work_sums) float0;
  stage_rows = replicate (length w.stage_rows) 0;
  stage_columns = replicate (length w.stage_columns) 0;
  stage_values = replicate (length w.stage_values) float0;
}

-- the words of a basis: the first len that the lanes hold
abbrev pub basis_of : List ℕ → ℕ → List Word
basis_of lanes len = take len (words lanes)

-- ---- the tests
-- the model, 8, 9; no words ask for no place
unfoldable pub table_tests : Model → ModelTables → List ℕ → ℕ → ℕ → ℕ → ℕ → ℕ → ℕ → Answer
table_tests m t lanes len hIndex jIndex mask heads nexts =
    in_turn (
    and_then (test_model m t)
    ∷ counted max_words len
    ∷ lent len (length lanes / word_lanes)
    ∷ lent (where_any len (row_lanes * m.qubits)) hIndex
    ∷ lent (where_any len (row_lanes * m.qubits)) jIndex
    ∷ lent (where_any len row_lanes) mask
    ∷ lent len heads
    ∷ lent len nexts
    ∷ []) (Ok tt)

-- 12 at the first word that came before
unfoldable pub distinct : List Word → Answer
distinct ws = cond (ltb (first_repeat ws) (length ws)) (Err (RepeatedBasisWord (first_repeat ws))) (Ok tt)

abbrev pub lent_tests : Model → ModelTables → List ℕ → ℕ → Work → Answer
lent_tests m t lanes len w = table_tests m t lanes len (length w.h_index) (length w.j_index) (length w.mask) (length w.heads) (length w.nexts)

unfoldable pub generator_tests : Model → ModelTables → List ℕ → ℕ → Work → Answer
generator_tests m t lanes len w = and_then (lent_tests m t lanes len w) (inside_to len lanes m.qubits (distinct (basis_of lanes len)))

-- a matrix by rows needs an offset for each row, and one more
unfoldable pub csr_tests : Model → ModelTables → List ℕ → ℕ → Work → List ℕ → Answer
csr_tests m t lanes len w offsets =
    in_turn (
    and_then (lent_tests m t lanes len w)
    ∷ lent (suc len) (length offsets)
    ∷ inside_to len lanes m.qubits
    ∷ []) (distinct (basis_of lanes len))

-- ---- places for entries while they are staged
abbrev pub stage_places : Work → ℕ
stage_places w = min (min (length w.stage_rows) (length w.stage_columns)) (length w.stage_values)

-- ---- for the functions that work on lent tables
