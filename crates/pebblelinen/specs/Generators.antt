-- SPDX-FileCopyrightText: 2026 The PPVM Authors
-- SPDX-License-Identifier: Apache-2.0

-- What the generator and the matrix by rows answer in plain numbers, and the lengths of their work tables.
use Rattle.std.specs.Prelude.{ℕ, ◌*◌, min, ◌≡◌, List, Float}
use Rattle.word.specs.Flat.{word_lanes}
use Rattle.word.specs.Word.{max_qubits}
use Rattle.lent.specs.Tests.{where_any}
use Rattle.lent.specs.Words.{max_words}
use Rattle.action.specs.Counts.{row_lanes}
use Rattle.generator.specs.Lent.{Work}
use Rattle.generator.specs.Generators.{Generating, CsrBuilding}
use Rattle.pebblelinen.specs.Actions.{listed_of}
use Rattle.pebblelinen.specs.Leakages.{max_places}
use Rattle.pebblelinen.specs.declared.actions.ListedWords.{ListedWords}
use Rattle.pebblelinen.specs.declared.generators.GeneratorSizes.{GeneratorSizes}

-- what the generator answers, and the lent tables afterwards
pub record LeavesGenerator (g : Generating) (r : ListedWords) (rows columns : List ℕ) (values : List Float) (w : Work) : Type 0 where
  pub answers : r ≡ listed_of g.out.answer
  pub rows_are : rows ≡ g.out.rows
  pub columns_are : columns ≡ g.out.columns
  pub values_are : values ≡ g.out.values
  pub work_is : w ≡ g.work

-- the same of the matrix by rows
pub record LeavesCsr (g : CsrBuilding) (r : ListedWords) (offsets columns : List ℕ) (values : List Float) (w : Work) : Type 0 where
  pub answers : r ≡ listed_of g.out.answer
  pub offsets_are : offsets ≡ g.out.offsets
  pub columns_are : columns ≡ g.out.columns
  pub values_are : values ≡ g.out.values
  pub work_is : w ≡ g.work

-- a row and a column each of 65,536
abbrev pub max_entries : ℕ
max_entries = 4294967296

-- the lengths for a register, a basis of so many words, actions that touch so many words, and so many entries: twice as many slots as
-- words, and no rows for no words
unfoldable pub generator_sizes : ℕ → ℕ → ℕ → ℕ → GeneratorSizes
generator_sizes qubits words touched entries =
    let rows : ℕ = where_any words (row_lanes * min qubits max_qubits) in
    let b : ℕ = min words max_words in
    let t : ℕ = min touched max_places in
    let e : ℕ = min entries max_entries in
    record {
      h_index = rows;
      j_index = rows;
      mask = where_any words row_lanes;
      heads = 2 * b;
      nexts = b;
      work_words = word_lanes * t;
      work_sums = 2 * t;
      stage_rows = e;
      stage_columns = e;
      stage_values = e;
    }
