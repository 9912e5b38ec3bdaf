-- SPDX-FileCopyrightText: 2026 The PPVM Authors
-- SPDX-License-Identifier: Apache-2.0

-- What an accepted call of the matrix by rows leaves passes the product's tests. Assumes nothing.
use mathlib.Core.Path.{◌≡◌, sym, ap, ◌∙◌}
use mathlib.Core.Bool.{Bool, false, not}
use mathlib.Core.List.{List}
use Prim.Native.Nat.{ℕ, ◌+◌, ◌≤◌}
use native.Mathlib.Omega.{arith}
use borrow.Author.Tests.{eq-eqb}
use lib.Ieee.{Float}
use lib.ListN.{length, take}
use Rattle.std.specs.Prelude.{Ok}
use Rattle.refusal.specs.Cause.{Answer}
use Rattle.word.specs.declared.word.Word.{Word}
use Rattle.model.specs.Stored.{ModelTables}
use Rattle.model.specs.Tested.{test_model}
use Rattle.lent.specs.Tests.{and_then}
use Rattle.lent.proofs.Firsts.{NoneBefore}
use Rattle.lent.specs.Words.{max_words}
use Rattle.lent.specs.Numbers.{not_finite}
use Rattle.model.specs.declared.stored.Model.{Model}
use Rattle.columns.specs.Entries.{Entry}
use Rattle.columns.specs.Columns.{generator_of}
use Rattle.csr_build.specs.Rows.{offsets_of}
use Rattle.csr_build.proofs.SortLaws.{offsets_many}
use Rattle.generator.specs.Lent.{basis_of}
use Rattle.generator.specs.Generators.{CsrOut, build_csr}
use Rattle.generator_laws.proofs.Accepted.{RowListing, csr_accepted}
use Rattle.generator_laws.proofs.RowPlaces.{columns_by, values_by, values_many, first_offsets, first_columns, first_values}
use Rattle.generator_laws.proofs.SoundRows.{below, sized, generator_sound}
use Rattle.csr.specs.Products.{length_tests, table_tests}
use Rattle.csr.proofs.CheckLaws.{rows_accepted, lengths_then, lengths_accepted, Sound, sound_accepted}
use Rattle.demands.specs.Calls.{AllFinite}
use Rattle.demands.specs.Demands.{MakesProducts}
use Rattle.demands.proofs.Matrices.{csr_answer}

finite_sound : (l : List Float) (n : ℕ) → n ≤ length l → AllFinite l → NoneBefore (not_finite l) n
unfolding not_finite
finite_sound l n h f k low = ap not (f k (omega arith))

-- ---- all tests
module _ (rows : ℕ) (few : rows ≤ max_words) (input : List Float) (overwrite : Bool) (output work : List Float) (input-agrees : length input ≡ rows) (output-agrees : length output ≡ rows) (room : rows ≤ length work) where
  abbrev answer : List ℕ → List ℕ → List Float → Answer
  answer offsets columns values = length_tests rows offsets columns values input output work (table_tests rows offsets columns values input overwrite output (Ok tt))

  all_passed : (offsets columns : List ℕ) (values : List Float) → length offsets ≡ rows + 1 → length values ≡ length columns
      → Sound rows offsets columns values input overwrite output → answer offsets columns values ≡ Ok tt
  all_passed offsets columns values o v s =
      lengths_then rows offsets columns values input output work (table_tests rows offsets columns values input overwrite output (Ok tt))
      ∙ ap (λ (a : Answer). and_then a (table_tests rows offsets columns values input overwrite output (Ok tt)))
      (sym (lengths_accepted rows offsets columns values input output work (sym (rows_accepted rows offsets few (eq-eqb (length offsets) (rows + 1) o))) (eq-eqb (length values) (length columns) v) (eq-eqb (length input) rows input-agrees) (eq-eqb (length output) rows output-agrees) room))
      ∙ sound_accepted rows offsets columns values input overwrite output s

  module _ (input-finite : AllFinite input) (output-finite : overwrite ≡ false → AllFinite output) where
    generator_passed : (m : Model) (t : ModelTables) (bs : List Word) → length bs ≡ rows → test_model m t ≡ Ok tt
        → answer (offsets_of rows (generator_of m t bs)) (columns_by rows (generator_of m t bs)) (values_by rows (generator_of m t bs)) ≡ Ok tt
    generator_passed m t bs e passes =
        let G : List Entry = generator_of m t bs in
        let z = offsets_many rows G in
        all_passed (offsets_of rows G) (columns_by rows G) (values_by rows G) (omega (arith, z)) (values_many rows G (below m t bs rows e) ∙ sym (sized m t bs rows e))
        (generator_sound m t bs rows e passes input overwrite output (finite_sound input rows (omega arith) input-finite) (λ a. finite_sound output rows (omega arith) (output-finite a)))

    -- what a call leaves
    left_passed : (m : Model) (t : ModelTables) (bs : List Word) (out : CsrOut) (count : ℕ) → RowListing m t bs rows out count
        → answer (take (rows + 1) out.offsets) (take count out.columns) (take count out.values) ≡ Ok tt
    left_passed m t bs out count l =
        let G : List Entry = generator_of m t bs in
        let b = below m t bs rows l.rows_all in
        rw (l.size, l.is, first_offsets rows G b l.offsets₀ l.columns₀ l.values₀ l.offsets_long, first_columns rows G b l.offsets₀ l.columns₀ l.values₀ l.columns_long, first_values rows G b l.offsets₀ l.columns₀ l.values₀ l.values_long)
        (generator_passed m t bs l.rows_all l.model_passes)

pub makes_products : MakesProducts
makes_products = record {
  tests_passed = λ c ok input overwrite output work in-agrees out-agrees room in-finite out-finite.
      let l = csr_accepted c.offsets c.columns c.values c.work c.model c.tables c.lanes c.len c.answer.count (csr_answer c ok) in
      rw (c.leaves.offsets_are, c.leaves.columns_are, c.leaves.values_are)
      (left_passed c.len l.few input overwrite output work in-agrees out-agrees room in-finite out-finite c.model c.tables (basis_of c.lanes c.len) (build_csr c.offsets c.columns c.values c.work c.model c.tables c.lanes c.len).out c.answer.count l);
}
