-- SPDX-FileCopyrightText: 2026 The PPVM Authors
-- SPDX-License-Identifier: Apache-2.0

-- The call, answer by answer: a refusal by a test, a word that comes again, and the text of what the columns staged. Assumes nothing.
use mathlib.Core.Path.{◌≡◌, refl, ap, ap₂, ◌∙◌}
use mathlib.Core.List.{List}
use Prim.Native.Nat.{ℕ}
use lib.Ieee.{Float}
use lib.ListN.{length, take}
use Rattle.refusal.specs.declared.Refusal.{Refusal}
use Rattle.std.specs.Prelude.{Result, Ok, Err}
use Rattle.refusal.specs.Cause.{Answer}
use Rattle.word.specs.declared.word.Word.{Word}
use Rattle.model.specs.Stored.{ModelTables}
use Rattle.model.specs.declared.stored.Model.{Model}
use Rattle.lent.specs.Tests.{and_then}
use Rattle.lent.specs.Words.{inside_to}
use Rattle.lent.proofs.Passed.{both}
use Rattle.action.specs.Acts.{sum_places}
use Rattle.columns.specs.Between.{StageRoom, Stages}
use Rattle.columns.specs.Entries.{Entry}
use Rattle.columns.specs.Columns.{generator_of, generator_room}
use Rattle.columns.specs.Stages.{answered}
use Rattle.columns.proofs.EntryLaws.{staged_rows, staged_columns, staged_values}
use Rattle.generator.specs.Lent.{Work, zeroed, basis_of, lent_tests, distinct, generator_tests, stage_places}
use Rattle.generator.specs.Generators.{staged_entries}
use Rattle.generator.proofs.CheckLaws.{inside_then, inside_refused, then_other}
use Rattle.matrix_market.specs.Writes.{Writing, writes}
use Rattle.generator_export.specs.Exports.{entries_text, tested, text_over, export_generator}

-- ---- the text of what is staged
module _ (n : ℕ) (text stageRows stageColumns : List ℕ) (stageValues : List Float) where
  pub staged_text : (r : Result ℕ Refusal) (k : ℕ) → r ≡ Ok k → StageRoom k stageRows stageColumns stageValues → (out : Writing) → out ≡ writes n (take k stageRows) (take k stageColumns) (take k stageValues) text
      → out ≡ entries_text n text r (staged_entries r stageRows stageColumns stageValues)
  staged_text r k e s out o =
      rw e
      (o
      ∙ rw (
        staged_rows k stageRows stageColumns stageValues s.rows_long s.columns_long s.values_long,
        staged_columns k stageRows stageColumns stageValues s.rows_long s.columns_long s.values_long,
        staged_values k stageRows stageColumns stageValues s.rows_long s.columns_long s.values_long,
      ))

  pub staged_refused : (r : Result ℕ Refusal) (q : Refusal) → r ≡ Err q → record { answer = Err q; text = text } ≡ entries_text n text r (staged_entries r stageRows stageColumns stageValues)
  staged_refused r q e = rw e

  pub text_is : (tests : Answer) (G : List Entry) (r : Result ℕ Refusal) → Stages tests G stageRows stageColumns stageValues r
      → entries_text n text r (staged_entries r stageRows stageColumns stageValues) ≡ entries_text n text (answered tests (length G)) G
  text_is tests G (Ok k) s = ap₂ (λ (a : Result ℕ Refusal) (E : List Entry). entries_text n text a E) s.answers (s.held k refl)
  text_is tests G (Err q) s = ap (λ (a : Result ℕ Refusal). entries_text n text a G) s.answers

-- ---- the call
module _ (text : List ℕ) (w : Work) (m : Model) (t : ModelTables) where
  module _ (n : ℕ) (bs : List Word) where
    pub tested_repeated : (q : Refusal) (after : Work) → distinct bs ≡ Err q → after ≡ w
        → record { out = record { answer = Err q; text = text }; work = after } ≡ tested text w (distinct bs) (text_over text w n m t bs)
    tested_repeated q after e z = rw (e, z)

    pub tested_written : (out : Writing) (after : Work) (places : ℕ) (stageRows stageColumns : List ℕ) (stageValues : List Float) (r : Result ℕ Refusal) → distinct bs ≡ Ok tt → places ≡ stage_places w
        → Stages (generator_room m t bs (sum_places w.work_words w.work_sums) places) (generator_of m t bs) stageRows stageColumns stageValues r
        → out ≡ entries_text n text r (staged_entries r stageRows stageColumns stageValues) → after ≡ zeroed w
        → record { out = out; work = after } ≡ tested text w (distinct bs) (text_over text w n m t bs)
    unfolding text_over
    tested_written out after places stageRows stageColumns stageValues r e p s o z =
        rw (e, z, ← p) (ap (λ (x : Writing). record { out = x; work = zeroed w }) (o ∙ text_is n text stageRows stageColumns stageValues _ _ r s))

  module _ (lanes : List ℕ) (len : ℕ) where
    abbrev checks : Answer
    checks = and_then (lent_tests m t lanes len w) (inside_to len lanes m.qubits (Ok tt))

    pub export_refused : (q : Refusal) → checks ≡ Err q
        → record { out = record { answer = Err q; text = text }; work = w } ≡ export_generator text w m t lanes len
    unfolding export_generator generator_tests
    export_refused q e =
        rw (then_other (lent_tests m t lanes len w) (inside_to len lanes m.qubits (Ok tt)) (inside_to len lanes m.qubits (distinct (basis_of lanes len))) q (inside_refused len lanes m.qubits (distinct (basis_of lanes len)) q) e)

    pub export_tested : checks ≡ Ok tt → (bs : List Word) → bs ≡ basis_of lanes len
        → tested text w (distinct bs) (text_over text w len m t bs) ≡ export_generator text w m t lanes len
    unfolding export_generator generator_tests
    export_tested e bs b =
        let a = both (lent_tests m t lanes len w) (inside_to len lanes m.qubits (Ok tt)) e in
        rw (b, a.0, inside_then len lanes m.qubits (distinct (basis_of lanes len)) a.1)
