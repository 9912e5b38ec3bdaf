-- SPDX-FileCopyrightText: 2026 The PPVM Authors
-- SPDX-License-Identifier: Apache-2.0

-- The generator of a lent model over a lent basis as Matrix Market: the answer, and every lent table afterwards. The tests are those of
-- the generator, with the stage for table 3; then 15, then 13 for table 5.
use Rattle.std.specs.Prelude.{ℕ, List, map, length, Result, Ok, Err}
use Rattle.refusal.specs.declared.Refusal.{Refusal}
use Rattle.refusal.specs.Cause.{Answer}
use Rattle.word.specs.declared.word.Word.{Word}
use Rattle.model.specs.Stored.{ModelTables}
use Rattle.model.specs.declared.stored.Model.{Model}
use Rattle.action.specs.Acts.{sum_places}
use Rattle.columns.specs.Entries.{Entry}
use Rattle.columns.specs.Columns.{generator_of, generator_room}
use Rattle.columns.specs.Stages.{answered}
use Rattle.generator.specs.Lent.{Work, zeroed, basis_of, generator_tests, stage_places}
use Rattle.matrix_market.specs.Text.{Line}
use Rattle.matrix_market.specs.Writes.{line_of, Writing, writes}

-- an entry as it is written: its row and column from 1, its value as a count
abbrev pub entry_line : Entry → Line
entry_line e = line_of e.row e.column e.value

-- the text of entries over n words, into a lent table
abbrev pub entries_text : ℕ → List ℕ → Result ℕ Refusal → List Entry → Writing
entries_text n text (Ok k) E = writes n (map (λ e. e.row) E) (map (λ e. e.column) E) (map (λ e. e.value) E) text
entries_text n text (Err q) E = record { answer = Err q; text = text }

pub record Exporting : Type 0 where
  pub out : Writing
  pub work : Work

module _ (text : List ℕ) (w : Work) where
  -- a refusal by a test changes nothing; work tables are zero after acceptance, 13 and 15
  abbrev pub tested : Answer → Writing → Exporting
  tested (Ok _) out = record { out = out; work = zeroed w }
  tested (Err q) out = record { out = record { answer = Err q; text = text }; work = w }

  -- over a basis of n words
  unfoldable pub text_over : ℕ → Model → ModelTables → List Word → Writing
  text_over n m t bs =
      entries_text n text
      (answered (generator_room m t bs (sum_places w.work_words w.work_sums) (stage_places w)) (length (generator_of m t bs)))
      (generator_of m t bs)

  unfoldable pub export_generator : Model → ModelTables → List ℕ → ℕ → Exporting
  export_generator m t lanes len = tested (generator_tests m t lanes len w) (text_over len m t (basis_of lanes len))
