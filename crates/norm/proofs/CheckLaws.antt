-- SPDX-FileCopyrightText: 2026 The PPVM Authors
-- SPDX-License-Identifier: Apache-2.0

-- The tests of norm and degree, answer by answer; and what is known where they are passed. Assumes nothing.
use mathlib.Core.Path.{◌≡◌, sym, ◌∙◌}
use mathlib.Core.Bool.{Bool, true, false, not}
use mathlib.Core.List.{List}
use Prim.Native.Nat.{ℕ, ◌*◌, ◌/◌, ◌≤◌, ◌<◌}
use native.Mathlib.Omega.{arith}
use borrow.Author.Tests.{lt-ltb, le-ltb, ltb-false, not-true, not-false}
use lib.Dec.{ltb}
use lib.Ieee.{Float}
use lib.ListN.{length}
use Rattle.refusal.specs.declared.Refusal.{Refusal}
use Rattle.refusal.specs.declared.Refusal.TheVariants.{CountAboveLimit, LengthMismatch, NumberOutOfRange, WordOutsideRegister}
use Rattle.std.specs.Prelude.{Ok, Err}
use Rattle.refusal.specs.Cause.{Answer}
use Rattle.word.specs.Flat.{word_lanes}
use Rattle.number.specs.Floats.{is_finite}
use Rattle.model.specs.Stored.{ModelTables}
use Rattle.model.specs.Tested.{test_model}
use Rattle.lent.specs.Tests.{where_any, first_to}
use Rattle.lent.proofs.NeedLaws.{need_some}
use Rattle.lent.proofs.Firsts.{first_before}
use Rattle.lent.proofs.Passed.{passed, both, lent_passed, counted_passed}
use Rattle.lent.specs.Words.{max_words, outside_at, inside_to}
use Rattle.model.specs.declared.stored.Model.{Model}
use Rattle.action.specs.Counts.{row_lanes}
use Rattle.norm.specs.Norms.{norm_tests, finite_tests}

module _ (m : Model) (t : ModelTables) (lanes : List ℕ) (len h j k a b r d : ℕ) where
  abbrev tests : Answer
  tests = norm_tests m t lanes len h j k a b r d

  pub model_refused : (q : Refusal) → test_model m t ≡ Err q → Err q ≡ tests
  unfolding norm_tests
  model_refused q e = rw e

  module _ (ok : test_model m t ≡ Ok tt) where
    pub words_many : max_words < len → Err (CountAboveLimit len) ≡ tests
    unfolding norm_tests
    words_many l = rw (ok, lt-ltb max_words len l)

    module _ (few : len ≤ max_words) where
      pub words_short : length lanes / word_lanes < len → Err (LengthMismatch len (length lanes / word_lanes)) ≡ tests
      unfolding norm_tests
      words_short l = rw (ok, le-ltb max_words len few, lt-ltb (length lanes / word_lanes) len l)

      module _ (words_long : len ≤ length lanes / word_lanes) {rows row : ℕ} (rows_are : rows ≡ where_any len (row_lanes * m.qubits)) (row_is : row ≡ where_any len row_lanes) where
        pub h_index_short : h < rows → Err (LengthMismatch rows h) ≡ tests
        unfolding norm_tests
        h_index_short l = rw (ok, le-ltb max_words len few, le-ltb (length lanes / word_lanes) len words_long, ← rows_are, lt-ltb h rows l)

        module _ (h-long : rows ≤ h) where
          pub j_index_short : j < rows → Err (LengthMismatch rows j) ≡ tests
          unfolding norm_tests
          j_index_short l = rw (ok, le-ltb max_words len few, le-ltb (length lanes / word_lanes) len words_long, ← rows_are, le-ltb h rows h-long, lt-ltb j rows l)

          module _ (j-long : rows ≤ j) where
            pub mask_short : k < row → Err (LengthMismatch row k) ≡ tests
            unfolding norm_tests
            mask_short l = rw (ok, le-ltb max_words len few, le-ltb (length lanes / word_lanes) len words_long, ← rows_are, le-ltb h rows h-long, le-ltb j rows j-long, ← row_is, lt-ltb k row l)

            module _ (mask-long : row ≤ k) where
              pub heads_short : a < len → Err (LengthMismatch len a) ≡ tests
              unfolding norm_tests
              heads_short l = rw (ok, le-ltb max_words len few, le-ltb (length lanes / word_lanes) len words_long, ← rows_are, le-ltb h rows h-long, le-ltb j rows j-long, ← row_is, le-ltb k row mask-long, lt-ltb a len l)

              module _ (heads-long : len ≤ a) where
                pub nexts_short : b < len → Err (LengthMismatch len b) ≡ tests
                unfolding norm_tests
                nexts_short l = rw (ok, le-ltb max_words len few, le-ltb (length lanes / word_lanes) len words_long, ← rows_are, le-ltb h rows h-long, le-ltb j rows j-long, ← row_is, le-ltb k row mask-long, le-ltb a len heads-long, lt-ltb b len l)

                module _ (nexts-long : len ≤ b) where
                  pub raws_short : r < len → Err (LengthMismatch len r) ≡ tests
                  unfolding norm_tests
                  raws_short l = rw (ok, le-ltb max_words len few, le-ltb (length lanes / word_lanes) len words_long, ← rows_are, le-ltb h rows h-long, le-ltb j rows j-long, ← row_is, le-ltb k row mask-long, le-ltb a len heads-long, le-ltb b len nexts-long, lt-ltb r len l)

                  module _ (raws-long : len ≤ r) where
                    pub diags_short : d < len → Err (LengthMismatch len d) ≡ tests
                    unfolding norm_tests
                    diags_short l = rw (ok, le-ltb max_words len few, le-ltb (length lanes / word_lanes) len words_long, ← rows_are, le-ltb h rows h-long, le-ltb j rows j-long, ← row_is, le-ltb k row mask-long, le-ltb a len heads-long, le-ltb b len nexts-long, le-ltb r len raws-long, lt-ltb d len l)

                    module _ (diags-long : len ≤ d) (first : ℕ) (is : first ≡ first_to len (outside_at lanes m.qubits)) where
                      reached : inside_to len lanes m.qubits (Ok tt) ≡ tests
                      unfolding norm_tests
                      reached = rw (ok, le-ltb max_words len few, le-ltb (length lanes / word_lanes) len words_long, ← rows_are, le-ltb h rows h-long, le-ltb j rows j-long, ← row_is, le-ltb k row mask-long, le-ltb a len heads-long, le-ltb b len nexts-long, le-ltb r len raws-long, le-ltb d len diags-long)

                      pub word_outside : first < len → Err (WordOutsideRegister first) ≡ tests
                      unfolding inside_to
                      word_outside l = (rw (sym is, lt-ltb first len l)) ∙ reached

                      pub norm_accepted : len ≤ first → (Ok tt) ≡ tests
                      unfolding inside_to
                      norm_accepted l = (rw (sym is, le-ltb first len l)) ∙ reached

-- ---- the numbers of a degree
module _ (dt dropTol : Float) (step : Bool) (is : step ≡ is_finite dt) where
  pub step_bad : not step ≡ true → Err (NumberOutOfRange 0) ≡ finite_tests dt dropTol
  unfolding finite_tests
  step_bad f = rw (← is, not-true step f)

  module _ (f : not step ≡ false) (threshold : Bool) (it : threshold ≡ is_finite dropTol) where
    pub threshold_bad : not threshold ≡ true → Err (NumberOutOfRange 0) ≡ finite_tests dt dropTol
    unfolding finite_tests
    threshold_bad g = rw (← is, not-false step f, ← it, not-true threshold g)

    pub finite_both : not threshold ≡ false → (Ok tt) ≡ finite_tests dt dropTol
    unfolding finite_tests
    finite_both g = rw (← is, not-false step f, ← it, not-false threshold g)

-- ---- what is known where the tests are passed
pub record Passed (m : Model) (t : ModelTables) (lanes : List ℕ) (len h j k a b r d : ℕ) : Type 0 where
  pub model : test_model m t ≡ Ok tt
  pub few : len ≤ max_words
  pub words_long : len ≤ length lanes / word_lanes
  pub h_long : 0 < len → row_lanes * m.qubits ≤ h
  pub j_long : 0 < len → row_lanes * m.qubits ≤ j
  pub mask_long : 0 < len → row_lanes ≤ k
  pub heads_long : len ≤ a
  pub nexts_long : len ≤ b
  pub raws_long : len ≤ r
  pub diags_long : len ≤ d
  pub inside : (i : ℕ) → i < len → outside_at lanes m.qubits i ≡ false

pub norm_passed : (m : Model) (t : ModelTables) (lanes : List ℕ) (len h j k a b r d : ℕ) → norm_tests m t lanes len h j k a b r d ≡ Ok tt → Passed m t lanes len h j k a b r d
unfolding norm_tests inside_to
norm_passed m t lanes len h j k a b r d e =
    let first : ℕ = first_to len (outside_at lanes m.qubits) in
    let e0 = both (test_model m t) _ e in
    let e1 = counted_passed max_words len _ e0.1 in
    let e2 = lent_passed len (length lanes / word_lanes) _ e1.1 in
    let rows : ℕ = row_lanes * m.qubits in
    let e3 = lent_passed (where_any len rows) h _ e2.1 in
    let e4 = lent_passed (where_any len rows) j _ e3.1 in
    let e5 = lent_passed (where_any len row_lanes) k _ e4.1 in
    let e6 = lent_passed len a _ e5.1 in
    let e7 = lent_passed len b _ e6.1 in
    let e8 = lent_passed len r _ e7.1 in
    let e9 = lent_passed len d _ e8.1 in
    let e10 = passed (ltb first len) (WordOutsideRegister first) _ e9.1 in
    let l = ltb-false first len e10.0 in
    record {
      model = e0.0;
      few = e1.0;
      words_long = e2.0;
      h_long = λ q. need_some len rows h q e3.0;
      j_long = λ q. need_some len rows j q e4.0;
      mask_long = λ q. need_some len row_lanes k q e5.0;
      heads_long = e6.0;
      nexts_long = e7.0;
      raws_long = e8.0;
      diags_long = e9.0;
      inside = λ i q. first_before len (outside_at lanes m.qubits) i (omega arith);
    }

-- other slots of the same lengths
pub slots_lent : (m : Model) (t : ModelTables) (lanes : List ℕ) (len h j k a b r d a' b' : ℕ) → a' ≡ a → b' ≡ b → norm_tests m t lanes len h j k a b r d ≡ Ok tt → norm_tests m t lanes len h j k a' b' r d ≡ Ok tt
slots_lent m t lanes len h j k a b r d a' b' ea eb e = rw (ea, eb) e
