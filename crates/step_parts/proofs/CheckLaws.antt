-- SPDX-FileCopyrightText: 2026 The PPVM Authors
-- SPDX-License-Identifier: Apache-2.0

-- The tests of a step, answer by answer; and what is known where they are passed. Assumes nothing.
use mathlib.Core.Path.{◌≡◌, refl, sym, ap, ◌∙◌}
use mathlib.Core.Bool.{Bool, true, false, not, cond}
use mathlib.Core.List.{List, ◌++◌}
use Prim.Native.Nat.{ℕ, zero, suc, ◌+◌, ◌*◌, ◌/◌, ◌≤◌, ◌<◌}
use native.Mathlib.Omega.{arith}
use borrow.Author.Tests.{lt-ltb, le-ltb, ltb-false, not-true, not-false}
use lib.Dec.{eqb, ltb}
use lib.Ieee.{Float, nan}
use lib.ListN.{length, get_or, take, drop, take-append-drop}
use Rattle.refusal.specs.declared.Refusal.{Refusal}
use Rattle.refusal.specs.declared.Refusal.TheVariants.{CountAboveLimit, LengthMismatch, NumberOutOfRange, WordOutsideRegister, RepeatedBasisWord}
use Rattle.std.specs.Prelude.{Ok, Err}
use Rattle.refusal.specs.Cause.{Answer}
use Rattle.word.specs.Flat.{words, word_lanes}
use Rattle.word.specs.declared.word.Word.{Word}
use Rattle.word.proofs.FlatLaws.{words_low, words_high}
use Rattle.number.specs.Floats.{is_finite}
use Rattle.model.specs.Stored.{ModelTables}
use Rattle.model.specs.Tested.{test_model}
use Rattle.model.specs.declared.stored.Model.{Model}
use Rattle.lent.specs.Tests.{where_any, first_to, and_then}
use Rattle.lent.specs.Words.{max_words, inside_to, outside_at}
use Rattle.lent.specs.Numbers.{finite_to, finite_threshold}
use Rattle.lent.proofs.Firsts.{first_before}
use Rattle.lent.proofs.NeedLaws.{need_some}
use Rattle.lent.proofs.Passed.{both, passed, refused_not, lent_passed, counted_passed, equal_passed}
use Rattle.limits.specs.Defaults.{limit_tests, tau_tests}
use Rattle.limits.specs.declared.Limits.{Limits}
use Rattle.action.specs.Counts.{row_lanes}
use Rattle.columns.specs.Between.{LaysDistinct}
use Rattle.generator.specs.Lent.{distinct, basis_of}
use Rattle.truncate.proofs.ChecksLaws.{entries_then, entries_finite}
use Rattle.step_parts.specs.Lent.{given_tests, work_tests, number_tests, step_tests}
use Rattle.step_parts.specs.Between.{Untouched}

-- ---- what is given
module _ (m : Model) (t : ModelTables) (lanes : List ℕ) (coeffs : List Float) (len : ℕ) (protected : List ℕ) (l : Limits) where
  abbrev given : Answer
  given = given_tests m t lanes coeffs len protected l

  abbrev count : ℕ
  count = length protected / word_lanes

  abbrev places : ℕ
  places = length lanes / word_lanes

  pub model_refused : (r : Refusal) → test_model m t ≡ Err r → Err r ≡ given
  unfolding given_tests
  model_refused r e = rw e

  module _ (ok : test_model m t ≡ Ok tt) where
    pub words_many : max_words < len → Err (CountAboveLimit len) ≡ given
    unfolding given_tests
    words_many h = rw (ok, lt-ltb max_words len h)

    module _ (h1 : len ≤ max_words) where
      pub protected_many : max_words < count → Err (CountAboveLimit count) ≡ given
      unfolding given_tests
      protected_many h = rw (ok, le-ltb max_words len h1, lt-ltb max_words count h)

      module _ (h2 : count ≤ max_words) where
        pub limits_refused : (r : Refusal) → limit_tests l ≡ Err r → Err r ≡ given
        unfolding given_tests
        limits_refused r h = rw (ok, le-ltb max_words len h1, le-ltb max_words count h2, h)

        module _ (h3 : limit_tests l ≡ Ok tt) where
          pub words_short : places < len → Err (LengthMismatch len places) ≡ given
          unfolding given_tests
          words_short h = rw (ok, le-ltb max_words len h1, le-ltb max_words count h2, h3, lt-ltb places len h)

          module _ (h4 : len ≤ places) where
            pub coeffs_short : length coeffs < len → Err (LengthMismatch len (length coeffs)) ≡ given
            unfolding given_tests
            coeffs_short h = rw (ok, le-ltb max_words len h1, le-ltb max_words count h2, h3, le-ltb places len h4, lt-ltb (length coeffs) len h)

            module _ (h5 : len ≤ length coeffs) where
              pub lanes_over : eqb (length protected) (count * word_lanes) ≡ false → Err (LengthMismatch (count * word_lanes) (length protected)) ≡ given
              unfolding given_tests
              lanes_over h = rw (ok, le-ltb max_words len h1, le-ltb max_words count h2, h3, le-ltb places len h4, le-ltb (length coeffs) len h5, h)

              pub given_accepted : eqb (length protected) (count * word_lanes) ≡ true → (Ok tt) ≡ given
              unfolding given_tests
              given_accepted h = rw (ok, le-ltb max_words len h1, le-ltb max_words count h2, h3, le-ltb places len h4, le-ltb (length coeffs) len h5, h)

  pub record GivenPassed : Type 0 where
    pub model : test_model m t ≡ Ok tt
    pub few : len ≤ max_words
    pub protected_few : count ≤ max_words
    pub limits : limit_tests l ≡ Ok tt
    pub words_long : word_lanes * len ≤ length lanes
    pub coeffs_long : len ≤ length coeffs
    pub whole : length protected ≡ count * word_lanes

  pub given_passed : given ≡ Ok tt → GivenPassed
  unfolding given_tests
  given_passed e =
      let e0 = both (test_model m t) _ e in
      let e1 = counted_passed max_words len _ e0.1 in
      let e2 = counted_passed max_words count _ e1.1 in
      let e3 = both (limit_tests l) _ e2.1 in
      let e4 = lent_passed len places _ e3.1 in
      let e5 = lent_passed len (length coeffs) _ e4.1 in
      let e6 = equal_passed (count * word_lanes) (length protected) _ e5.1 in
      record { model = e0.0; few = e1.0; protected_few = e2.0; limits = e3.0; words_long = omega (arith, e4.0); coeffs_long = e5.0; whole = e6.0 }

-- ---- tables of so many places
-- places that only a basis with words asks for are enough for one without
pub where_any_lem : (len have : ℕ) → (0 < len → len ≤ have) → len ≤ have
where_any_lem zero have h = omega arith
where_any_lem (suc len) have h = h (omega arith)

module _ (n len count hIndex jIndex mask order heads nexts placeOrder candSums listValues workSums grownWords start evolved : ℕ) where
  abbrev tables : Answer
  tables = work_tests n len count hIndex jIndex mask order heads nexts placeOrder candSums listValues workSums grownWords start evolved

  module _ {rows row slots starts : ℕ} (rows_are : rows ≡ where_any len (row_lanes * n)) (row_is : row ≡ where_any len row_lanes) (slots-are : slots ≡ where_any len (len + count)) (starts-are : starts ≡ where_any len (suc len)) where
    pub h_short : hIndex < rows → Err (LengthMismatch rows hIndex) ≡ tables
    unfolding work_tests
    h_short l = rw (← rows_are, lt-ltb hIndex rows l)

    module _ (h0 : rows ≤ hIndex) where
      pub j_short : jIndex < rows → Err (LengthMismatch rows jIndex) ≡ tables
      unfolding work_tests
      j_short l = rw (← rows_are, le-ltb hIndex rows h0, lt-ltb jIndex rows l)

      module _ (h1 : rows ≤ jIndex) where
        pub mask_short : mask < row → Err (LengthMismatch row mask) ≡ tables
        unfolding work_tests
        mask_short l = rw (← rows_are, le-ltb hIndex rows h0, le-ltb jIndex rows h1, ← row_is, lt-ltb mask row l)

        module _ (h2 : row ≤ mask) where
          pub order_short : order < len → Err (LengthMismatch len order) ≡ tables
          unfolding work_tests
          order_short l = rw (← rows_are, le-ltb hIndex rows h0, le-ltb jIndex rows h1, ← row_is, le-ltb mask row h2, lt-ltb order len l)

          module _ (h3 : len ≤ order) where
            pub heads_short : heads < slots → Err (LengthMismatch slots heads) ≡ tables
            unfolding work_tests
            heads_short l = rw (← rows_are, le-ltb hIndex rows h0, le-ltb jIndex rows h1, ← row_is, le-ltb mask row h2, le-ltb order len h3, ← slots-are, lt-ltb heads slots l)

            module _ (h4 : slots ≤ heads) where
              pub nexts_short : nexts < slots → Err (LengthMismatch slots nexts) ≡ tables
              unfolding work_tests
              nexts_short l = rw (← rows_are, le-ltb hIndex rows h0, le-ltb jIndex rows h1, ← row_is, le-ltb mask row h2, le-ltb order len h3, ← slots-are, le-ltb heads slots h4, lt-ltb nexts slots l)

              module _ (h5 : slots ≤ nexts) where
                pub starts_short : placeOrder < starts → Err (LengthMismatch starts placeOrder) ≡ tables
                unfolding work_tests
                starts_short l = rw (← rows_are, le-ltb hIndex rows h0, le-ltb jIndex rows h1, ← row_is, le-ltb mask row h2, le-ltb order len h3, ← slots-are, le-ltb heads slots h4, le-ltb nexts slots h5, ← starts-are, lt-ltb placeOrder starts l)

                module _ (h6 : starts ≤ placeOrder) where
                  pub cand_short : candSums < len → Err (LengthMismatch len candSums) ≡ tables
                  unfolding work_tests
                  cand_short l = rw (← rows_are, le-ltb hIndex rows h0, le-ltb jIndex rows h1, ← row_is, le-ltb mask row h2, le-ltb order len h3, ← slots-are, le-ltb heads slots h4, le-ltb nexts slots h5, ← starts-are, le-ltb placeOrder starts h6, lt-ltb candSums len l)

                  module _ (h7 : len ≤ candSums) where
                    pub list_short : listValues < len → Err (LengthMismatch len listValues) ≡ tables
                    unfolding work_tests
                    list_short l = rw (← rows_are, le-ltb hIndex rows h0, le-ltb jIndex rows h1, ← row_is, le-ltb mask row h2, le-ltb order len h3, ← slots-are, le-ltb heads slots h4, le-ltb nexts slots h5, ← starts-are, le-ltb placeOrder starts h6, le-ltb candSums len h7, lt-ltb listValues len l)

                    module _ (h8 : len ≤ listValues) where
                      pub sums_short : workSums < len → Err (LengthMismatch len workSums) ≡ tables
                      unfolding work_tests
                      sums_short l = rw (← rows_are, le-ltb hIndex rows h0, le-ltb jIndex rows h1, ← row_is, le-ltb mask row h2, le-ltb order len h3, ← slots-are, le-ltb heads slots h4, le-ltb nexts slots h5, ← starts-are, le-ltb placeOrder starts h6, le-ltb candSums len h7, le-ltb listValues len h8, lt-ltb workSums len l)

                      module _ (h9 : len ≤ workSums) where
                        pub grown_short : grownWords / word_lanes < len → Err (LengthMismatch len (grownWords / word_lanes)) ≡ tables
                        unfolding work_tests
                        grown_short l = rw (← rows_are, le-ltb hIndex rows h0, le-ltb jIndex rows h1, ← row_is, le-ltb mask row h2, le-ltb order len h3, ← slots-are, le-ltb heads slots h4, le-ltb nexts slots h5, ← starts-are, le-ltb placeOrder starts h6, le-ltb candSums len h7, le-ltb listValues len h8, le-ltb workSums len h9, lt-ltb (grownWords / word_lanes) len l)

                        module _ (h10 : len ≤ grownWords / word_lanes) where
                          pub start_short : start < len → Err (LengthMismatch len start) ≡ tables
                          unfolding work_tests
                          start_short l = rw (← rows_are, le-ltb hIndex rows h0, le-ltb jIndex rows h1, ← row_is, le-ltb mask row h2, le-ltb order len h3, ← slots-are, le-ltb heads slots h4, le-ltb nexts slots h5, ← starts-are, le-ltb placeOrder starts h6, le-ltb candSums len h7, le-ltb listValues len h8, le-ltb workSums len h9, le-ltb (grownWords / word_lanes) len h10, lt-ltb start len l)

                          module _ (h11 : len ≤ start) where
                            pub evolved_short : evolved < len → Err (LengthMismatch len evolved) ≡ tables
                            unfolding work_tests
                            evolved_short l = rw (← rows_are, le-ltb hIndex rows h0, le-ltb jIndex rows h1, ← row_is, le-ltb mask row h2, le-ltb order len h3, ← slots-are, le-ltb heads slots h4, le-ltb nexts slots h5, ← starts-are, le-ltb placeOrder starts h6, le-ltb candSums len h7, le-ltb listValues len h8, le-ltb workSums len h9, le-ltb (grownWords / word_lanes) len h10, le-ltb start len h11, lt-ltb evolved len l)

                            module _ (h12 : len ≤ evolved) where
                              pub tables_accepted : (Ok tt) ≡ tables
                              unfolding work_tests
                              tables_accepted = rw (← rows_are, le-ltb hIndex rows h0, le-ltb jIndex rows h1, ← row_is, le-ltb mask row h2, le-ltb order len h3, ← slots-are, le-ltb heads slots h4, le-ltb nexts slots h5, ← starts-are, le-ltb placeOrder starts h6, le-ltb candSums len h7, le-ltb listValues len h8, le-ltb workSums len h9, le-ltb (grownWords / word_lanes) len h10, le-ltb start len h11, le-ltb evolved len h12)

  pub record WorkPassed : Type 0 where
    pub h_long : 0 < len → row_lanes * n ≤ hIndex
    pub j_long : 0 < len → row_lanes * n ≤ jIndex
    pub mask_long : 0 < len → row_lanes ≤ mask
    pub order_long : len ≤ order
    pub heads_long : 0 < len → len + count ≤ heads
    pub nexts_long : 0 < len → len + count ≤ nexts
    pub starts_long : 0 < len → len < placeOrder
    pub cand_long : len ≤ candSums
    pub list_long : len ≤ listValues
    pub sums_long : len ≤ workSums
    pub grown_long : word_lanes * len ≤ grownWords
    pub start_long : len ≤ start
    pub evolved_long : len ≤ evolved

  pub work_passed : tables ≡ Ok tt → WorkPassed
  unfolding work_tests
  work_passed e =
      let rows : ℕ = row_lanes * n in
      let e1 = lent_passed (where_any len rows) hIndex _ e in
      let e2 = lent_passed (where_any len rows) jIndex _ e1.1 in
      let e3 = lent_passed (where_any len row_lanes) mask _ e2.1 in
      let e4 = lent_passed len order _ e3.1 in
      let e5 = lent_passed (where_any len (len + count)) heads _ e4.1 in
      let e6 = lent_passed (where_any len (len + count)) nexts _ e5.1 in
      let e7 = lent_passed (where_any len (suc len)) placeOrder _ e6.1 in
      let e8 = lent_passed len candSums _ e7.1 in
      let e9 = lent_passed len listValues _ e8.1 in
      let e10 = lent_passed len workSums _ e9.1 in
      let e11 = lent_passed len (grownWords / word_lanes) _ e10.1 in
      let e12 = lent_passed len start _ e11.1 in
      let e13 = lent_passed len evolved _ e12.1 in
      record {
        h_long = λ a. need_some len rows hIndex a e1.0;
        j_long = λ a. need_some len rows jIndex a e2.0;
        mask_long = λ a. need_some len row_lanes mask a e3.0;
        order_long = e4.0;
        heads_long = λ a. need_some len (len + count) heads a e5.0;
        nexts_long = λ a. need_some len (len + count) nexts a e6.0;
        starts_long = λ a. need_some len (suc len) placeOrder a e7.0;
        cand_long = e8.0;
        list_long = e9.0;
        sums_long = e10.0;
        grown_long = omega (arith, e11.0);
        start_long = e12.0;
        evolved_long = e13.0;
      }

  -- a basis without words asks for no slot
  pub slots_passed : WorkPassed → (len ≤ heads) × (len ≤ nexts)
  slots_passed w = (where_any_lem len heads (λ a. omega (arith, w.heads_long a)), where_any_lem len nexts (λ a. omega (arith, w.nexts_long a)))

-- ---- words and numbers
finite_passed : (count : ℕ) (x : Float) (after : Answer) → finite_threshold count x after ≡ Ok tt → (is_finite x ≡ true) × (after ≡ Ok tt)
finite_passed count x after e = go (is_finite x) e
  where
    go : (b : Bool) → cond b after (Err (NumberOutOfRange count)) ≡ Ok tt → (b ≡ true) × (after ≡ Ok tt)
    go true f = (refl, f)
    go false f = absurd (refused_not (NumberOutOfRange count) f)

module _ (n : ℕ) (lanes : List ℕ) (coeffs : List Float) (len : ℕ) (protected : List ℕ) (l : Limits) (dt dropTol : Float) where
  abbrev numbers : Answer
  numbers = number_tests n lanes coeffs len protected l dt dropTol

  abbrev entries : Answer
  entries = inside_to len lanes n (inside_to (length protected / word_lanes) protected n (finite_to 0 len coeffs (Ok tt)))

  abbrev thresholds : Answer
  thresholds = finite_threshold len dt (finite_threshold len dropTol (tau_tests len l))

  numbers_are : numbers ≡ and_then entries thresholds
  unfolding number_tests
  numbers_are = entries_then len lanes coeffs n protected thresholds

  pub entries_refused : (a : Answer) (r : Refusal) → a ≡ entries → a ≡ Err r → Err r ≡ numbers
  entries_refused a r e f = sym (numbers_are ∙ ap (λ (x : Answer). and_then x thresholds) (sym e ∙ f))

  module _ (ok : entries ≡ Ok tt) where
    from_step : thresholds ≡ numbers
    from_step = sym (numbers_are ∙ ap (λ (x : Answer). and_then x thresholds) ok)

    module _ (b : Bool) (told : b ≡ is_finite dt) where
      pub step_bad : not b ≡ true → Err (NumberOutOfRange len) ≡ numbers
      step_bad h = sym (ap (λ (x : Bool). cond x (finite_threshold len dropTol (tau_tests len l)) (Err (NumberOutOfRange len))) (sym told ∙ not-true b h)) ∙ from_step

      module _ (good : not b ≡ false) (d : Bool) (told2 : d ≡ is_finite dropTol) where
        from_threshold : finite_threshold len dropTol (tau_tests len l) ≡ numbers
        from_threshold = sym (ap (λ (x : Bool). cond x (finite_threshold len dropTol (tau_tests len l)) (Err (NumberOutOfRange len))) (sym told ∙ not-false b good)) ∙ from_step

        pub threshold_bad : not d ≡ true → Err (NumberOutOfRange len) ≡ numbers
        threshold_bad h = sym (ap (λ (x : Bool). cond x (tau_tests len l) (Err (NumberOutOfRange len))) (sym told2 ∙ not-true d h)) ∙ from_threshold

        pub tau_left : not d ≡ false → tau_tests len l ≡ numbers
        tau_left h = sym (ap (λ (x : Bool). cond x (tau_tests len l) (Err (NumberOutOfRange len))) (sym told2 ∙ not-false d h)) ∙ from_threshold

  pub record NumbersPassed : Type 0 where
    pub inside : (i : ℕ) → i < len → outside_at lanes n i ≡ false
    pub protected_inside : (i : ℕ) → i < length protected / word_lanes → outside_at protected n i ≡ false
    pub finite : (i : ℕ) → i < len → is_finite (get_or coeffs i nan) ≡ true
    pub dt_finite : is_finite dt ≡ true
    pub drop_finite : is_finite dropTol ≡ true
    pub tau : tau_tests len l ≡ Ok tt

  pub numbers_passed : numbers ≡ Ok tt → NumbersPassed
  unfolding inside_to
  numbers_passed e =
      let k : ℕ = length protected / word_lanes in
      let e0 = both entries thresholds (sym numbers_are ∙ e) in
      let p = passed (ltb (first_to len (outside_at lanes n)) len) (WordOutsideRegister (first_to len (outside_at lanes n))) _ e0.0 in
      let q = passed (ltb (first_to k (outside_at protected n)) k) (WordOutsideRegister (first_to k (outside_at protected n))) _ p.1 in
      let f = ltb-false (first_to len (outside_at lanes n)) len p.0 in
      let g = ltb-false (first_to k (outside_at protected n)) k q.0 in
      let s = finite_passed len dt _ e0.1 in
      let d = finite_passed len dropTol _ s.1 in
      record {
        inside = λ i h. first_before len (outside_at lanes n) i (omega (arith, f, h));
        protected_inside = λ i h. first_before k (outside_at protected n) i (omega (arith, g, h));
        finite = entries_finite len lanes coeffs n protected e0.0;
        dt_finite = s.0;
        drop_finite = d.0;
        tau = d.1;
      }

-- ---- 12: the tables in which words are looked for are as they were where a word comes again
module _ (len : ℕ) (basis heads nexts : List ℕ) (each : length basis ≡ len * word_lanes) (heads' part : List ℕ) (r : ℕ) (d : LaysDistinct (words basis) heads (take len nexts) heads' part r) where
  size : length (words basis) ≡ len
  size = omega (arith, each, words_low basis, words_high basis)

  pub distinct_repeated : r < len → (Err (RepeatedBasisWord r) ≡ distinct (words basis)) × Untouched (Err (RepeatedBasisWord r)) heads nexts heads' (part ++ drop len nexts)
  unfolding distinct
  distinct_repeated h =
      let u = d.unchanged (omega (arith, size)) in
      (rw (← d.first, lt-ltb r (length (words basis)) (omega (arith, size))), λ q e. (u.0, ap (λ (k : List ℕ). k ++ drop len nexts) u.1 ∙ take-append-drop len nexts))

  pub distinct_laid : len ≤ r → ((Ok tt) ≡ distinct (words basis)) × Untouched (Ok tt) heads nexts heads' (part ++ drop len nexts)
  unfolding distinct
  distinct_laid h = (rw (← d.first, le-ltb r (length (words basis)) (omega (arith, size))), λ q e. absurd (refused_not q (sym e)))

-- ---- one part of the tests after another
module _ (m : Model) (t : ModelTables) (lanes : List ℕ) (coeffs : List Float) (len : ℕ) (protected : List ℕ) (l : Limits) (dt dropTol : Float) (hIndex jIndex mask order heads nexts placeOrder candSums listValues workSums grownWords start evolved : ℕ) where
  abbrev all_tests : Answer
  all_tests = step_tests m t lanes coeffs len protected l dt dropTol hIndex jIndex mask order heads nexts placeOrder candSums listValues workSums grownWords start evolved

  abbrev work_answer : Answer
  work_answer = work_tests m.qubits len (length protected / word_lanes) hIndex jIndex mask order heads nexts placeOrder candSums listValues workSums grownWords start evolved

  abbrev number_answer : Answer
  number_answer = number_tests m.qubits lanes coeffs len protected l dt dropTol

  pub given_refused : (r : Answer) (q : Refusal) → r ≡ given_tests m t lanes coeffs len protected l → r ≡ Err q → Err q ≡ all_tests
  unfolding step_tests
  given_refused r q e f = rw (sym e ∙ f)

  module _ (ok : given_tests m t lanes coeffs len protected l ≡ Ok tt) where
    pub work_refused : (r : Answer) (q : Refusal) → r ≡ work_answer → r ≡ Err q → Err q ≡ all_tests
    unfolding step_tests
    work_refused r q e f = rw (ok, sym e ∙ f)

    module _ (ok2 : work_answer ≡ Ok tt) where
      pub numbers_refused : (r : Answer) (q : Refusal) → r ≡ number_answer → r ≡ Err q → Err q ≡ all_tests
      unfolding step_tests
      numbers_refused r q e f = rw (ok, ok2, sym e ∙ f)

      pub all_tested : number_answer ≡ Ok tt → (ws : List Word) → ws ≡ basis_of lanes len → (r : Answer) → r ≡ distinct ws → r ≡ all_tests
      unfolding step_tests
      all_tested ok3 ws e r f = f ∙ rw (ok, ok2, ok3, e)
