-- SPDX-FileCopyrightText: 2026 The PPVM Authors
-- SPDX-License-Identifier: Apache-2.0

-- The generator of a lent model over a lent basis, and the same matrix by rows: the answer, and every lent table afterwards.
use Rattle.std.specs.Prelude.{ℕ, min, List, [], map, Float, length, set, Result, Ok, Err}
use Rattle.refusal.specs.declared.Refusal.{Refusal}
use Rattle.refusal.specs.Cause.{Answer}
use Rattle.word.specs.declared.word.Word.{Word}
use Rattle.model.specs.Stored.{ModelTables}
use Rattle.lent.specs.Laid.{laid}
use Rattle.model.specs.declared.stored.Model.{Model}
use Rattle.action.specs.Acts.{sum_places}
use Rattle.columns.specs.Entries.{Entry, staged}
use Rattle.columns.specs.Columns.{generator_of, generator_room}
use Rattle.columns.specs.Stages.{answered}
use Rattle.csr_build.specs.Rows.{rows_to, offsets_of, columns_laid, values_laid}
use Rattle.generator.specs.Lent.{Work, zeroed, basis_of, generator_tests, csr_tests, stage_places}

-- ---- the generator
pub record Out : Type 0 where
  pub answer : Result ℕ Refusal
  pub rows : List ℕ
  pub columns : List ℕ
  pub values : List Float

-- entries by column, then word
abbrev pub listing : List ℕ → List ℕ → List Float → Result ℕ Refusal → List Entry → Out
listing rows columns values (Ok n) E = record { answer = Ok n; rows = laid set 0 (map (λ e. e.row) E) rows; columns = columns_laid E columns; values = values_laid E values }
listing rows columns values (Err q) E = record { answer = Err q; rows = rows; columns = columns; values = values }

-- table 3: those of the shortest table that holds entries
abbrev pub entry_places : Work → List ℕ → List ℕ → List Float → ℕ
entry_places w rows columns values = min (stage_places w) (min (min (length rows) (length columns)) (length values))

pub record Generating : Type 0 where
  pub out : Out
  pub work : Work

module _ (rows columns : List ℕ) (values : List Float) (w : Work) where
  -- a refusal by a test changes nothing; work tables are zero after acceptance and 13
  abbrev pub tested : Answer → Out → Generating
  tested (Ok _) out = record { out = out; work = zeroed w }
  tested (Err q) out = record { out = record { answer = Err q; rows = rows; columns = columns; values = values }; work = w }

  unfoldable pub listed_over : Model → ModelTables → List Word → Out
  listed_over m t bs =
      listing rows columns values
      (answered (generator_room m t bs (sum_places w.work_words w.work_sums) (entry_places w rows columns values)) (length (generator_of m t bs)))
      (generator_of m t bs)

  unfoldable pub generate : Model → ModelTables → List ℕ → ℕ → Generating
  generate m t lanes len = tested (generator_tests m t lanes len w) (listed_over m t (basis_of lanes len))

-- ---- by rows
pub record CsrOut : Type 0 where
  pub answer : Result ℕ Refusal
  pub offsets : List ℕ
  pub columns : List ℕ
  pub values : List Float

-- so many rows one after another
abbrev pub by_rows : ℕ → List ℕ → List ℕ → List Float → Result ℕ Refusal → List Entry → CsrOut
by_rows n offsets columns values (Ok k) E = record { answer = Ok k; offsets = laid set 0 (offsets_of n E) offsets; columns = columns_laid (rows_to n E) columns; values = values_laid (rows_to n E) values }
by_rows n offsets columns values (Err q) E = record { answer = Err q; offsets = offsets; columns = columns; values = values }

abbrev pub csr_places : Work → List ℕ → List Float → ℕ
csr_places w columns values = min (stage_places w) (min (length columns) (length values))

pub record CsrBuilding : Type 0 where
  pub out : CsrOut
  pub work : Work

module _ (offsets columns : List ℕ) (values : List Float) (w : Work) where
  abbrev pub csr_tested : Answer → CsrOut → CsrBuilding
  csr_tested (Ok _) out = record { out = out; work = zeroed w }
  csr_tested (Err q) out = record { out = record { answer = Err q; offsets = offsets; columns = columns; values = values }; work = w }

  -- over a basis of n words
  unfoldable pub csr_over : ℕ → Model → ModelTables → List Word → CsrOut
  csr_over n m t bs =
      by_rows n offsets columns values
      (answered (generator_room m t bs (sum_places w.work_words w.work_sums) (csr_places w columns values)) (length (generator_of m t bs)))
      (generator_of m t bs)

  unfoldable pub build_csr : Model → ModelTables → List ℕ → ℕ → CsrBuilding
  build_csr m t lanes len = csr_tested (csr_tests m t lanes len w offsets) (csr_over len m t (basis_of lanes len))

-- ---- for the functions that work on lent tables
-- the entries that the columns left in lent tables
abbrev pub staged_entries : Result ℕ Refusal → List ℕ → List ℕ → List Float → List Entry
staged_entries (Ok n) rows columns values = staged n rows columns values
staged_entries (Err q) rows columns values = []
