-- SPDX-FileCopyrightText: 2026 The PPVM Authors
-- SPDX-License-Identifier: Apache-2.0

-- An accepted call: its model passes the test, the words of its basis differ, and its tables hold exactly the generator's entries, listed or by rows; the
-- columns of a row ascend. Assumes nothing.
use mathlib.Core.Path.{◌≡◌, refl, sym}
use mathlib.Core.List.{List}
use Prim.Native.Nat.{ℕ, suc, ◌≤◌, ◌<◌}
use native.Mathlib.Omega.{arith}
use borrow.Author.Tests.{ltb-false}
use lib.Dec.{ltb}
use lib.Ieee.{Float}
use lib.ListN.{length}
use lib.Seq.{length-take-le}
use Rattle.refusal.specs.declared.Refusal.TheVariants.{RepeatedBasisWord, WordOutsideRegister}
use Rattle.std.specs.Prelude.{Ok, Err}
use Rattle.refusal.specs.Cause.{Answer}
use Rattle.refusal.proofs.Told.{refused_not}
use Rattle.word.specs.declared.word.Word.{Word}
use Rattle.word.specs.Flat.{words}
use Rattle.word.proofs.FlatLaws.{words_high}
use Rattle.model.specs.Stored.{ModelTables}
use Rattle.model.specs.Tested.{test_model}
use Rattle.model.specs.declared.stored.Model.{Model}
use Rattle.lent.specs.Tests.{first_to}
use Rattle.lent.proofs.Firsts.{first_inside}
use Rattle.lent.proofs.Passed.{passed, both, lent_passed}
use Rattle.lent.specs.Words.{max_words, outside_at, inside_to}
use Rattle.action.specs.Acts.{sum_places}
use Rattle.columns.specs.Columns.{generator_of, generator_room}
use Rattle.columns.specs.Repeats.{repeats_at, first_repeat}
use Rattle.columns.specs.Stages.{answered}
use Rattle.columns.proofs.GeneratorLaws.{generator_fits}
use Rattle.generator.specs.Lent.{Work, basis_of, lent_tests, distinct, generator_tests, csr_tests}
use Rattle.generator.specs.Generators.{Out, listing, entry_places, tested, listed_over, generate, CsrOut, by_rows, csr_places, csr_tested, csr_over, build_csr, staged_entries}
use Rattle.generator.proofs.CheckLaws.{tables_passed}
use Rattle.generator_laws.proofs.TableLaws.{staged_laid}

-- ---- tests that were passed
inside_after : (count : ℕ) (lanes : List ℕ) (n : ℕ) (after : Answer) → inside_to count lanes n after ≡ Ok tt → after ≡ Ok tt
unfolding inside_to
inside_after count lanes n after e = (passed (ltb (first_to count (outside_at lanes n)) count) (WordOutsideRegister (first_to count (outside_at lanes n))) after e).1

differ : (bs : List Word) → distinct bs ≡ Ok tt → first_repeat bs ≡ length bs
unfolding distinct first_repeat
differ bs e =
    let p = passed (ltb (first_repeat bs) (length bs)) (RepeatedBasisWord (first_repeat bs)) (Ok tt) e in
    let l = ltb-false (first_repeat bs) (length bs) p.0 in
    let i = first_inside (length bs) (repeats_at bs) in
    omega (arith, l, i)

generator_passed : (m : Model) (t : ModelTables) (lanes : List ℕ) (len : ℕ) (w : Work) → generator_tests m t lanes len w ≡ Ok tt → (test_model m t ≡ Ok tt) × (distinct (basis_of lanes len) ≡ Ok tt)
unfolding generator_tests
generator_passed m t lanes len w e =
    let a = both (lent_tests m t lanes len w) _ e in
    let p = tables_passed m t lanes len (length w.h_index) (length w.j_index) (length w.mask) (length w.heads) (length w.nexts) a.0 in
    (p.model, inside_after len lanes m.qubits (distinct (basis_of lanes len)) a.1)

csr_passed : (m : Model) (t : ModelTables) (lanes : List ℕ) (len : ℕ) (w : Work) (offsets : List ℕ) → csr_tests m t lanes len w offsets ≡ Ok tt → (len < length offsets) × (distinct (basis_of lanes len) ≡ Ok tt) × (length (basis_of lanes len) ≡ len) × (test_model m t ≡ Ok tt) × (len ≤ max_words)
unfolding csr_tests
csr_passed m t lanes len w offsets e =
    let a = both (lent_tests m t lanes len w) _ e in
    let b = lent_passed (suc len) (length offsets) _ a.1 in
    let p = tables_passed m t lanes len (length w.h_index) (length w.j_index) (length w.mask) (length w.heads) (length w.nexts) a.0 in
    (b.0, inside_after len lanes m.qubits (distinct (basis_of lanes len)) b.1, length-take-le len (words lanes) (omega (arith, p.words_long, words_high lanes)), p.model, p.few)

-- ---- the generator
-- what an accepted call shows
pub record Listing (m : Model) (t : ModelTables) (bs : List Word) (out : Out) (n : ℕ) : Type 0 where
  pub model_passes : test_model m t ≡ Ok tt
  pub words_differ : first_repeat bs ≡ length bs
  pub size : n ≡ length (generator_of m t bs)
  pub entries_are : staged_entries out.answer out.rows out.columns out.values ≡ generator_of m t bs

module _ (rows columns : List ℕ) (values : List Float) (w : Work) (m : Model) (t : ModelTables) where
  over_listed : (bs : List Word) (n : ℕ) → test_model m t ≡ Ok tt → first_repeat bs ≡ length bs → (listed_over rows columns values w m t bs).answer ≡ Ok n → Listing m t bs (listed_over rows columns values w m t bs) n
  unfolding listed_over
  over_listed bs n passes d e = go (generator_room m t bs (sum_places w.work_words w.work_sums) (entry_places w rows columns values)) refl e
    where
      go : (a : Answer) → generator_room m t bs (sum_places w.work_words w.work_sums) (entry_places w rows columns values) ≡ a
          → (listing rows columns values (answered a (length (generator_of m t bs))) (generator_of m t bs)).answer ≡ Ok n
          → Listing m t bs (listing rows columns values (answered a (length (generator_of m t bs))) (generator_of m t bs)) n
      go (Err q) f g = absurd (refused_not q n g)
      go (Ok _) f g =
          let k = generator_fits m t bs (sum_places w.work_words w.work_sums) (entry_places w rows columns values) f in
          let z : length (generator_of m t bs) ≡ n = cc in
          record { model_passes = passes; words_differ = d; size = sym z; entries_are = staged_laid (generator_of m t bs) rows columns values (omega (arith, k)) (omega (arith, k)) (omega (arith, k)) }

  pub generator_accepted : (lanes : List ℕ) (len n : ℕ) → (generate rows columns values w m t lanes len).out.answer ≡ Ok n → Listing m t (basis_of lanes len) (generate rows columns values w m t lanes len).out n
  unfolding generate
  generator_accepted lanes len n e = go (generator_tests m t lanes len w) refl e
    where
      go : (a : Answer) → generator_tests m t lanes len w ≡ a → (tested rows columns values w a (listed_over rows columns values w m t (basis_of lanes len))).out.answer ≡ Ok n
          → Listing m t (basis_of lanes len) (tested rows columns values w a (listed_over rows columns values w m t (basis_of lanes len))).out n
      go (Err q) f g = absurd (refused_not q n g)
      go (Ok _) f g = let p = generator_passed m t lanes len w f in over_listed (basis_of lanes len) n p.0 (differ (basis_of lanes len) p.1) g

-- ---- by rows
-- what an accepted call shows: its tables before it, and places for all
pub record RowListing (m : Model) (t : ModelTables) (bs : List Word) (len : ℕ) (out : CsrOut) (n : ℕ) : Type 0 where
  pub model_passes : test_model m t ≡ Ok tt
  pub words_differ : first_repeat bs ≡ length bs
  pub rows_all : length bs ≡ len
  pub few : len ≤ max_words
  pub size : n ≡ length (generator_of m t bs)
  pub offsets₀ : List ℕ
  pub columns₀ : List ℕ
  pub values₀ : List Float
  pub offsets_long : len < length offsets₀
  pub columns_long : length (generator_of m t bs) ≤ length columns₀
  pub values_long : length (generator_of m t bs) ≤ length values₀
  pub is : out ≡ by_rows len offsets₀ columns₀ values₀ (Ok (length (generator_of m t bs))) (generator_of m t bs)

module _ (offsets columns : List ℕ) (values : List Float) (w : Work) (m : Model) (t : ModelTables) where
  over_rows : (len : ℕ) (bs : List Word) (n : ℕ) → test_model m t ≡ Ok tt → first_repeat bs ≡ length bs → length bs ≡ len → len ≤ max_words → len < length offsets → (csr_over offsets columns values w len m t bs).answer ≡ Ok n → RowListing m t bs len (csr_over offsets columns values w len m t bs) n
  unfolding csr_over
  over_rows len bs n passes d b s l e = go (generator_room m t bs (sum_places w.work_words w.work_sums) (csr_places w columns values)) refl e
    where
      go : (a : Answer) → generator_room m t bs (sum_places w.work_words w.work_sums) (csr_places w columns values) ≡ a
          → (by_rows len offsets columns values (answered a (length (generator_of m t bs))) (generator_of m t bs)).answer ≡ Ok n
          → RowListing m t bs len (by_rows len offsets columns values (answered a (length (generator_of m t bs))) (generator_of m t bs)) n
      go (Err q) f g = absurd (refused_not q n g)
      go (Ok _) f g =
          let k = generator_fits m t bs (sum_places w.work_words w.work_sums) (csr_places w columns values) f in
          let z : length (generator_of m t bs) ≡ n = cc in
          record { model_passes = passes; words_differ = d; rows_all = b; few = s; size = sym z; offsets₀ = offsets; columns₀ = columns; values₀ = values; offsets_long = l; columns_long = omega (arith, k); values_long = omega (arith, k); is = refl }

  pub csr_accepted : (lanes : List ℕ) (len n : ℕ) → (build_csr offsets columns values w m t lanes len).out.answer ≡ Ok n → RowListing m t (basis_of lanes len) len (build_csr offsets columns values w m t lanes len).out n
  unfolding build_csr
  csr_accepted lanes len n e = go (csr_tests m t lanes len w offsets) refl e
    where
      go : (a : Answer) → csr_tests m t lanes len w offsets ≡ a → (csr_tested offsets columns values w a (csr_over offsets columns values w len m t (basis_of lanes len))).out.answer ≡ Ok n
          → RowListing m t (basis_of lanes len) len (csr_tested offsets columns values w a (csr_over offsets columns values w len m t (basis_of lanes len))).out n
      go (Err q) f g = absurd (refused_not q n g)
      go (Ok _) f g = let p = csr_passed m t lanes len w offsets f in over_rows len (basis_of lanes len) n p.3 (differ (basis_of lanes len) p.1) p.2 p.4 p.0 g
