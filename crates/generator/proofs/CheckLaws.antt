-- SPDX-FileCopyrightText: 2026 The PPVM Authors
-- SPDX-License-Identifier: Apache-2.0

-- The tests of both calls, answer by answer; and what is known where they are passed. Assumes nothing.
use mathlib.Core.Path.{◌≡◌, sym, ◌∙◌}
use mathlib.Core.Bool.{Bool, true, false, cond}
use mathlib.Core.List.{List}
use Prim.Native.Nat.{ℕ, suc, ◌+◌, ◌*◌, ◌/◌, ◌≤◌, ◌<◌}
use native.Mathlib.Numerals.{add-one}
use native.Mathlib.Omega.{arith}
use borrow.Author.Tests.{lt-ltb, le-ltb, ltb-false}
use lib.Dec.{ltb}
use lib.ListN.{length}
use Rattle.refusal.specs.declared.Refusal.{Refusal}
use Rattle.refusal.specs.declared.Refusal.TheVariants.{CountAboveLimit, LengthMismatch, WordOutsideRegister}
use Rattle.std.specs.Prelude.{Ok, Err}
use Rattle.refusal.specs.Cause.{Answer}
use Rattle.word.specs.Flat.{word_lanes}
use Rattle.model.specs.Stored.{ModelTables}
use Rattle.model.specs.Tested.{test_model}
use Rattle.lent.specs.Tests.{lent, where_any, first_to, and_then}
use Rattle.lent.proofs.NeedLaws.{need_some}
use Rattle.lent.proofs.Firsts.{first_before}
use Rattle.lent.proofs.Passed.{passed, both, lent_passed, counted_passed, refused_not}
use Rattle.lent.specs.Words.{max_words, outside_at, inside_to}
use Rattle.model.specs.declared.stored.Model.{Model}
use Rattle.action.specs.Counts.{row_lanes}
use Rattle.generator.specs.Lent.{table_tests}

module _ (m : Model) (t : ModelTables) (lanes : List ℕ) (len h j k he ne : ℕ) where
  abbrev tests : Answer
  tests = table_tests m t lanes len h j k he ne

  abbrev places : ℕ
  places = length lanes / word_lanes

  pub model_refused : (r : Refusal) → test_model m t ≡ Err r → Err r ≡ tests
  unfolding table_tests
  model_refused r e = rw e

  module _ (ok : test_model m t ≡ Ok tt) where
    pub words_many : max_words < len → Err (CountAboveLimit len) ≡ tests
    unfolding table_tests
    words_many l = rw (ok, lt-ltb max_words len l)

    module _ (h1 : len ≤ max_words) where
      pub words_short : places < len → Err (LengthMismatch len places) ≡ tests
      unfolding table_tests
      words_short l = rw (ok, le-ltb max_words len h1, lt-ltb places len l)

      module _ (h2 : len ≤ places) {rows row : ℕ} (rows_are : rows ≡ where_any len (row_lanes * m.qubits)) (row_is : row ≡ where_any len row_lanes) where
        pub h_short : h < rows → Err (LengthMismatch rows h) ≡ tests
        unfolding table_tests
        h_short l = rw (ok, le-ltb max_words len h1, le-ltb places len h2, ← rows_are, lt-ltb h rows l)

        module _ (h3 : rows ≤ h) where
          pub j_short : j < rows → Err (LengthMismatch rows j) ≡ tests
          unfolding table_tests
          j_short l = rw (ok, le-ltb max_words len h1, le-ltb places len h2, ← rows_are, le-ltb h rows h3, lt-ltb j rows l)

          module _ (h4 : rows ≤ j) where
            pub mask_short : k < row → Err (LengthMismatch row k) ≡ tests
            unfolding table_tests
            mask_short l = rw (ok, le-ltb max_words len h1, le-ltb places len h2, ← rows_are, le-ltb h rows h3, le-ltb j rows h4, ← row_is, lt-ltb k row l)

            module _ (h5 : row ≤ k) where
              pub heads_short : he < len → Err (LengthMismatch len he) ≡ tests
              unfolding table_tests
              heads_short l = rw (ok, le-ltb max_words len h1, le-ltb places len h2, ← rows_are, le-ltb h rows h3, le-ltb j rows h4, ← row_is, le-ltb k row h5, lt-ltb he len l)

              module _ (h6 : len ≤ he) where
                pub nexts_short : ne < len → Err (LengthMismatch len ne) ≡ tests
                unfolding table_tests
                nexts_short l = rw (ok, le-ltb max_words len h1, le-ltb places len h2, ← rows_are, le-ltb h rows h3, le-ltb j rows h4, ← row_is, le-ltb k row h5, le-ltb he len h6, lt-ltb ne len l)

                module _ (h7 : len ≤ ne) where
                  pub tables_accepted : (Ok tt) ≡ tests
                  unfolding table_tests
                  tables_accepted = rw (ok, le-ltb max_words len h1, le-ltb places len h2, ← rows_are, le-ltb h rows h3, le-ltb j rows h4, ← row_is, le-ltb k row h5, le-ltb he len h6, le-ltb ne len h7)

-- ---- what is known where they are passed
pub record Passed (m : Model) (t : ModelTables) (lanes : List ℕ) (len h j k he ne : ℕ) : Type 0 where
  pub model : test_model m t ≡ Ok tt
  pub few : len ≤ max_words
  pub words_long : len ≤ length lanes / word_lanes
  pub h_long : 0 < len → row_lanes * m.qubits ≤ h
  pub j_long : 0 < len → row_lanes * m.qubits ≤ j
  pub mask_long : 0 < len → row_lanes ≤ k
  pub heads_long : len ≤ he
  pub nexts_long : len ≤ ne

pub tables_passed : (m : Model) (t : ModelTables) (lanes : List ℕ) (len h j k he ne : ℕ) → table_tests m t lanes len h j k he ne ≡ Ok tt → Passed m t lanes len h j k he ne
unfolding table_tests
tables_passed m t lanes len h j k he ne e =
    let e0 = both (test_model m t) _ e in
    let e1 = counted_passed max_words len _ e0.1 in
    let e2 = lent_passed len (length lanes / word_lanes) _ e1.1 in
    let rows : ℕ = row_lanes * m.qubits in
    let e3 = lent_passed (where_any len rows) h _ e2.1 in
    let e4 = lent_passed (where_any len rows) j _ e3.1 in
    let e5 = lent_passed (where_any len row_lanes) k _ e4.1 in
    let e6 = lent_passed len he _ e5.1 in
    let e7 = lent_passed len ne _ e6.1 in
    record {
      model = e0.0;
      few = e1.0;
      words_long = e2.0;
      h_long = λ a. need_some len rows h a e3.0;
      j_long = λ a. need_some len rows j a e4.0;
      mask_long = λ a. need_some len row_lanes k a e5.0;
      heads_long = e6.0;
      nexts_long = e7.0;
    }

-- ---- 11
module _ (count : ℕ) (lanes : List ℕ) (n first : ℕ) (is : first ≡ first_to count (outside_at lanes n)) where
  pub word_outside : first < count → Err (WordOutsideRegister first) ≡ inside_to count lanes n (Ok tt)
  unfolding inside_to
  word_outside l = rw (← is, lt-ltb first count l)

  pub words_inside : count ≤ first → (Ok tt) ≡ inside_to count lanes n (Ok tt)
  unfolding inside_to
  words_inside l = rw (← is, le-ltb first count l)

module _ (count : ℕ) (lanes : List ℕ) (n : ℕ) where
  pub inside_passed : inside_to count lanes n (Ok tt) ≡ Ok tt → (i : ℕ) → i < count → outside_at lanes n i ≡ false
  unfolding inside_to
  inside_passed e i l =
      let first : ℕ = first_to count (outside_at lanes n) in
      let p = passed (ltb first count) (WordOutsideRegister first) _ e in
      let f = ltb-false first count p.0 in
      first_before count (outside_at lanes n) i (omega arith)

  -- what comes after it
  pub inside_then : (after : Answer) → inside_to count lanes n (Ok tt) ≡ Ok tt → inside_to count lanes n after ≡ after
  unfolding inside_to
  inside_then after e =
      let first : ℕ = first_to count (outside_at lanes n) in
      let p = passed (ltb first count) (WordOutsideRegister first) _ e in
      rw p.0

  pub inside_refused : (after : Answer) (r : Refusal) → inside_to count lanes n (Ok tt) ≡ Err r → inside_to count lanes n after ≡ Err r
  unfolding inside_to
  inside_refused after r e = go (ltb (first_to count (outside_at lanes n)) count) e
    where
      go : (b : Bool) → ◌≡◌ {A = Answer} (cond b (Err (WordOutsideRegister (first_to count (outside_at lanes n)))) (Ok tt)) (Err r) → cond b (Err (WordOutsideRegister (first_to count (outside_at lanes n)))) after ≡ Err r
      go true f = f
      go false f = absurd (refused_not r (sym f))

-- ---- one test after another
pub then_refused : (a b : Answer) (r : Refusal) → a ≡ Err r → Err r ≡ and_then a b
then_refused a b r e = rw e

pub then_second : (a b : Answer) {c : Answer} → a ≡ Ok tt → c ≡ b → c ≡ and_then a b
then_second a b e f = rw e f

-- other tests in place of the last ones
pub then_other : (a b c : Answer) (r : Refusal) → (b ≡ Err r → c ≡ Err r) → and_then a b ≡ Err r → and_then a c ≡ Err r
then_other (Ok _) b c r f e = f e
then_other (Err q) b c r f e = e

pub lent_other : (needed places : ℕ) (b c : Answer) (r : Refusal) → (b ≡ Err r → c ≡ Err r) → lent needed places b ≡ Err r → lent needed places c ≡ Err r
lent_other needed places b c r f e = go (ltb places needed) e
  where
    go : (s : Bool) → cond s (Err (LengthMismatch needed places)) b ≡ Err r → cond s (Err (LengthMismatch needed places)) c ≡ Err r
    go true g = g
    go false g = f g

-- ---- an offset for each row, and one more
module _ (len offsets : ℕ) (after : Answer) {r : Answer} where
  pub offsets_short : r ≡ Err (LengthMismatch (len + 1) offsets) → offsets ≤ len → r ≡ lent (suc len) offsets after
  offsets_short e l = e ∙ rw (add-one len, lt-ltb offsets (suc len) (omega arith))

  pub offsets_long : r ≡ after → len < offsets → r ≡ lent (suc len) offsets after
  offsets_long e l = e ∙ rw (le-ltb offsets (suc len) l)
