-- SPDX-FileCopyrightText: 2026 The PPVM Authors
-- SPDX-License-Identifier: Apache-2.0

-- The tests of a lent list of words, answer by answer. Assumes nothing.
use mathlib.Core.Path.{◌≡◌, sym, ◌∙◌}
use mathlib.Core.Bool.{true, false}
use mathlib.Core.List.{List}
use Prim.Native.Nat.{ℕ, ◌*◌, ◌/◌, ◌≤◌, ◌<◌}
use native.Mathlib.Omega.{arith}
use borrow.Author.Tests.{lt-ltb, le-ltb, ltb-false}
use lib.Dec.{eqb, ltb}
use lib.ListN.{length}
use Rattle.refusal.specs.declared.Refusal.{Refusal}
use Rattle.refusal.specs.declared.Refusal.TheVariants.{CountAboveLimit, LengthMismatch, WordOutsideRegister}
use Rattle.std.specs.Prelude.{Ok, Err}
use Rattle.refusal.specs.Cause.{Answer}
use Rattle.word.specs.Flat.{word_lanes}
use Rattle.model.specs.Stored.{ModelTables}
use Rattle.model.specs.Tested.{test_model}
use Rattle.model.specs.declared.stored.Model.{Model}
use Rattle.lent.specs.Tests.{where_any, first_to}
use Rattle.lent.proofs.NeedLaws.{need_some}
use Rattle.lent.proofs.Firsts.{first_before}
use Rattle.lent.proofs.Passed.{passed, both, equal_passed, lent_passed, counted_passed}
use Rattle.lent.specs.Words.{max_words, outside_at, inside_to}
use Rattle.action.specs.Counts.{row_lanes, words_tests}
use Rattle.lent.specs.Between.{AllInside}

module _ (m : Model) (t : ModelTables) (lanes : List ℕ) (h j k : ℕ) where
  abbrev tests : Answer
  tests = words_tests m t lanes h j k

  abbrev words : ℕ
  words = length lanes / word_lanes

  pub model_refused : (r : Refusal) → test_model m t ≡ Err r → Err r ≡ tests
  unfolding words_tests
  model_refused r e = rw e

  module _ (ok : test_model m t ≡ Ok tt) where
    pub words_many : max_words < words → Err (CountAboveLimit words) ≡ tests
    unfolding words_tests
    words_many l = rw (ok, lt-ltb max_words words l)

    module _ (few : words ≤ max_words) where
      pub lanes_over : eqb (length lanes) (words * word_lanes) ≡ false → Err (LengthMismatch (words * word_lanes) (length lanes)) ≡ tests
      unfolding words_tests
      lanes_over e = rw (ok, le-ltb max_words words few, e)

      module _ (four : eqb (length lanes) (words * word_lanes) ≡ true) {rows row : ℕ} (rows_are : rows ≡ where_any words (row_lanes * m.qubits)) (row_is : row ≡ where_any words row_lanes) where
        pub h_index_short : h < rows → Err (LengthMismatch rows h) ≡ tests
        unfolding words_tests
        h_index_short l = rw (ok, le-ltb max_words words few, four, ← rows_are, lt-ltb h rows l)

        module _ (h-long : rows ≤ h) where
          pub j_index_short : j < rows → Err (LengthMismatch rows j) ≡ tests
          unfolding words_tests
          j_index_short l = rw (ok, le-ltb max_words words few, four, ← rows_are, le-ltb h rows h-long, lt-ltb j rows l)

          module _ (j-long : rows ≤ j) where
            pub mask_short : k < row → Err (LengthMismatch row k) ≡ tests
            unfolding words_tests
            mask_short l = rw (ok, le-ltb max_words words few, four, ← rows_are, le-ltb h rows h-long, le-ltb j rows j-long, ← row_is, lt-ltb k row l)

            module _ (mask-long : row ≤ k) (first : ℕ) (is : first ≡ first_to words (outside_at lanes m.qubits)) where
              reached : inside_to words lanes m.qubits (Ok tt) ≡ tests
              unfolding words_tests
              reached = rw (ok, le-ltb max_words words few, four, ← rows_are, le-ltb h rows h-long, le-ltb j rows j-long, ← row_is, le-ltb k row mask-long)

              pub word_outside : first < words → Err (WordOutsideRegister first) ≡ tests
              unfolding inside_to
              word_outside l = (rw (sym is, lt-ltb first words l)) ∙ reached

              pub words_accepted : words ≤ first → (Ok tt) ≡ tests
              unfolding inside_to
              words_accepted l = (rw (sym is, le-ltb first words l)) ∙ reached

-- ---- what is known where all tests are passed
pub record Passed (m : Model) (t : ModelTables) (lanes : List ℕ) (h j k : ℕ) : Type 0 where
  pub model : test_model m t ≡ Ok tt
  pub h_long : 0 < length lanes / word_lanes → row_lanes * m.qubits ≤ h
  pub j_long : 0 < length lanes / word_lanes → row_lanes * m.qubits ≤ j
  pub mask_long : 0 < length lanes / word_lanes → row_lanes ≤ k
  pub inside : AllInside lanes m.qubits

pub words_passed : (m : Model) (t : ModelTables) (lanes : List ℕ) (h j k : ℕ) → words_tests m t lanes h j k ≡ Ok tt → Passed m t lanes h j k
unfolding words_tests inside_to
words_passed m t lanes h j k e =
    let words : ℕ = length lanes / word_lanes in
    let first : ℕ = first_to words (outside_at lanes m.qubits) in
    let e0 = both (test_model m t) _ e in
    let e1 = counted_passed max_words words _ e0.1 in
    let e2 = equal_passed (words * word_lanes) (length lanes) _ e1.1 in
    let rows : ℕ = row_lanes * m.qubits in
    let e3 = lent_passed (where_any words rows) h _ e2.1 in
    let e4 = lent_passed (where_any words rows) j _ e3.1 in
    let e5 = lent_passed (where_any words row_lanes) k _ e4.1 in
    let e6 = passed (ltb first words) (WordOutsideRegister first) _ e5.1 in
    let l = ltb-false first words e6.0 in
    record {
      model = e0.0;
      h_long = λ a. need_some words rows h a e3.0;
      j_long = λ a. need_some words rows j a e4.0;
      mask_long = λ a. need_some words row_lanes k a e5.0;
      inside = λ i a. first_before words (outside_at lanes m.qubits) i (omega arith);
    }
