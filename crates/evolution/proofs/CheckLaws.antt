-- SPDX-FileCopyrightText: 2026 The PPVM Authors
-- SPDX-License-Identifier: Apache-2.0

-- The tests of an evolution, answer by answer; and what is known where they are passed. Assumes nothing.
use mathlib.Core.Path.{◌≡◌, sym, ap, ◌∙◌}
use mathlib.Core.Bool.{Bool, true, false, not}
use mathlib.Core.List.{List}
use Prim.Native.Nat.{ℕ, suc, ◌+◌, ◌*◌, ◌/◌, ◌≤◌, ◌<◌}
use native.Mathlib.Omega.{arith}
use borrow.Author.Tests.{lt-ltb, le-ltb, ltb-false, not-true, not-false}
use lib.Dec.{ltb}
use lib.Ieee.{Float, nan}
use lib.ListN.{length, take}
use lib.Seq.{get_or-take, length-take-le}
use Rattle.refusal.specs.declared.Refusal.{Refusal}
use Rattle.refusal.specs.declared.Refusal.TheVariants.{CountAboveLimit, LengthMismatch, NumberOutOfRange}
use Rattle.std.specs.Prelude.{Ok, Err}
use Rattle.refusal.specs.Cause.{Answer}
use Rattle.number.specs.Floats.{is_finite}
use Rattle.word.specs.Flat.{word_lanes}
use Rattle.model.specs.Stored.{ModelTables}
use Rattle.model.specs.Tested.{test_model}
use Rattle.model.specs.declared.stored.Model.{Model}
use Rattle.lent.specs.Tests.{where_any, first_to}
use Rattle.lent.specs.Words.{max_words, inside_to, outside_at}
use Rattle.lent.specs.Numbers.{not_finite, finite_to, finite_threshold}
use Rattle.lent.proofs.Firsts.{first_before}
use Rattle.lent.proofs.NeedLaws.{need_some}
use Rattle.lent.proofs.Passed.{both, passed, lent_passed, counted_passed}
use Rattle.action.specs.Counts.{row_lanes}
use Rattle.generator.proofs.CheckLaws.{inside_then, inside_refused}
use Rattle.taylor.specs.Between.{AllFinite}
use Rattle.evolution.specs.Lent.{basis_tests, work_tests, number_tests}

-- ---- what is given
module _ (m : Model) (t : ModelTables) (lanes : List ℕ) (coeffs : List Float) (len : ℕ) where
  abbrev places : ℕ
  places = length lanes / word_lanes

  pub model_refused : (r : Refusal) → test_model m t ≡ Err r → Err r ≡ basis_tests m t lanes coeffs len
  unfolding basis_tests
  model_refused r e = rw e

  module _ (ok : test_model m t ≡ Ok tt) where
    pub words_many : max_words < len → Err (CountAboveLimit len) ≡ basis_tests m t lanes coeffs len
    unfolding basis_tests
    words_many l = rw (ok, lt-ltb max_words len l)

    module _ (h1 : len ≤ max_words) where
      pub words_short : places < len → Err (LengthMismatch len places) ≡ basis_tests m t lanes coeffs len
      unfolding basis_tests
      words_short l = rw (ok, le-ltb max_words len h1, lt-ltb places len l)

      module _ (h2 : len ≤ places) where
        pub coeffs_short : length coeffs < len → Err (LengthMismatch len (length coeffs)) ≡ basis_tests m t lanes coeffs len
        unfolding basis_tests
        coeffs_short l = rw (ok, le-ltb max_words len h1, le-ltb places len h2, lt-ltb (length coeffs) len l)

        pub basis_accepted : len ≤ length coeffs → (Ok tt) ≡ basis_tests m t lanes coeffs len
        unfolding basis_tests
        basis_accepted l = rw (ok, le-ltb max_words len h1, le-ltb places len h2, le-ltb (length coeffs) len l)

  pub record BasisPassed : Type 0 where
    pub model : test_model m t ≡ Ok tt
    pub few : len ≤ max_words
    pub words_long : len ≤ places
    pub coeffs_long : len ≤ length coeffs

  pub basis_passed : basis_tests m t lanes coeffs len ≡ Ok tt → BasisPassed
  unfolding basis_tests
  basis_passed e =
      let e0 = both (test_model m t) _ e in
      let e1 = counted_passed max_words len _ e0.1 in
      let e2 = lent_passed len places _ e1.1 in
      let e3 = lent_passed len (length coeffs) _ e2.1 in
      record { model = e0.0; few = e1.0; words_long = e2.0; coeffs_long = e3.0 }

-- ---- tables of so many places
module _ (n len hIndex jIndex mask heads nexts offsets v b product out : ℕ) where
  abbrev tables : Answer
  tables = work_tests n len hIndex jIndex mask heads nexts offsets v b product out

  module _ {rows row starts : ℕ} (rows_are : rows ≡ where_any len (row_lanes * n)) (row_is : row ≡ where_any len row_lanes) (starts-are : starts ≡ where_any len (suc len)) where
    pub h_short : hIndex < rows → Err (LengthMismatch rows hIndex) ≡ tables
    unfolding work_tests
    h_short l = rw (← rows_are, lt-ltb hIndex rows l)

    module _ (h0 : rows ≤ hIndex) where
      pub j_short : jIndex < rows → Err (LengthMismatch rows jIndex) ≡ tables
      unfolding work_tests
      j_short l = rw (← rows_are, le-ltb hIndex rows h0, lt-ltb jIndex rows l)

      module _ (h1 : rows ≤ jIndex) where
        pub mask_short : mask < row → Err (LengthMismatch row mask) ≡ tables
        unfolding work_tests
        mask_short l = rw (← rows_are, le-ltb hIndex rows h0, le-ltb jIndex rows h1, ← row_is, lt-ltb mask row l)

        module _ (h2 : row ≤ mask) where
          pub heads_short : heads < len → Err (LengthMismatch len heads) ≡ tables
          unfolding work_tests
          heads_short l = rw (← rows_are, le-ltb hIndex rows h0, le-ltb jIndex rows h1, ← row_is, le-ltb mask row h2, lt-ltb heads len l)

          module _ (h3 : len ≤ heads) where
            pub nexts_short : nexts < len → Err (LengthMismatch len nexts) ≡ tables
            unfolding work_tests
            nexts_short l = rw (← rows_are, le-ltb hIndex rows h0, le-ltb jIndex rows h1, ← row_is, le-ltb mask row h2, le-ltb heads len h3, lt-ltb nexts len l)

            module _ (h4 : len ≤ nexts) where
              pub offsets_short : offsets < starts → Err (LengthMismatch starts offsets) ≡ tables
              unfolding work_tests
              offsets_short l = rw (← rows_are, le-ltb hIndex rows h0, le-ltb jIndex rows h1, ← row_is, le-ltb mask row h2, le-ltb heads len h3, le-ltb nexts len h4, ← starts-are, lt-ltb offsets starts l)

              module _ (h5 : starts ≤ offsets) where
                pub v_short : v < len → Err (LengthMismatch len v) ≡ tables
                unfolding work_tests
                v_short l = rw (← rows_are, le-ltb hIndex rows h0, le-ltb jIndex rows h1, ← row_is, le-ltb mask row h2, le-ltb heads len h3, le-ltb nexts len h4, ← starts-are, le-ltb offsets starts h5, lt-ltb v len l)

                module _ (h6 : len ≤ v) where
                  pub b_short : b < len → Err (LengthMismatch len b) ≡ tables
                  unfolding work_tests
                  b_short l = rw (← rows_are, le-ltb hIndex rows h0, le-ltb jIndex rows h1, ← row_is, le-ltb mask row h2, le-ltb heads len h3, le-ltb nexts len h4, ← starts-are, le-ltb offsets starts h5, le-ltb v len h6, lt-ltb b len l)

                  module _ (h7 : len ≤ b) where
                    pub product_short : product < len → Err (LengthMismatch len product) ≡ tables
                    unfolding work_tests
                    product_short l = rw (← rows_are, le-ltb hIndex rows h0, le-ltb jIndex rows h1, ← row_is, le-ltb mask row h2, le-ltb heads len h3, le-ltb nexts len h4, ← starts-are, le-ltb offsets starts h5, le-ltb v len h6, le-ltb b len h7, lt-ltb product len l)

                    module _ (h8 : len ≤ product) where
                      pub out_short : out < len → Err (LengthMismatch len out) ≡ tables
                      unfolding work_tests
                      out_short l = rw (← rows_are, le-ltb hIndex rows h0, le-ltb jIndex rows h1, ← row_is, le-ltb mask row h2, le-ltb heads len h3, le-ltb nexts len h4, ← starts-are, le-ltb offsets starts h5, le-ltb v len h6, le-ltb b len h7, le-ltb product len h8, lt-ltb out len l)

                      module _ (h9 : len ≤ out) where
                        pub tables_accepted : (Ok tt) ≡ tables
                        unfolding work_tests
                        tables_accepted = rw (← rows_are, le-ltb hIndex rows h0, le-ltb jIndex rows h1, ← row_is, le-ltb mask row h2, le-ltb heads len h3, le-ltb nexts len h4, ← starts-are, le-ltb offsets starts h5, le-ltb v len h6, le-ltb b len h7, le-ltb product len h8, le-ltb out len h9)

  pub record TablesPassed : Type 0 where
    pub h_long : 0 < len → row_lanes * n ≤ hIndex
    pub j_long : 0 < len → row_lanes * n ≤ jIndex
    pub mask_long : 0 < len → row_lanes ≤ mask
    pub heads_long : len ≤ heads
    pub nexts_long : len ≤ nexts
    pub offsets_long : 0 < len → len < offsets
    pub v_long : len ≤ v
    pub b_long : len ≤ b
    pub product_long : len ≤ product
    pub out_long : len ≤ out

  pub tables_passed : tables ≡ Ok tt → TablesPassed
  unfolding work_tests
  tables_passed e =
      let rows : ℕ = row_lanes * n in
      let e1 = lent_passed (where_any len rows) hIndex _ e in
      let e2 = lent_passed (where_any len rows) jIndex _ e1.1 in
      let e3 = lent_passed (where_any len row_lanes) mask _ e2.1 in
      let e4 = lent_passed len heads _ e3.1 in
      let e5 = lent_passed len nexts _ e4.1 in
      let e6 = lent_passed (where_any len (suc len)) offsets _ e5.1 in
      let e7 = lent_passed len v _ e6.1 in
      let e8 = lent_passed len b _ e7.1 in
      let e9 = lent_passed len product _ e8.1 in
      let e10 = lent_passed len out _ e9.1 in
      record {
        h_long = λ a. need_some len rows hIndex a e1.0;
        j_long = λ a. need_some len rows jIndex a e2.0;
        mask_long = λ a. need_some len row_lanes mask a e3.0;
        heads_long = e4.0;
        nexts_long = e5.0;
        offsets_long = λ a. need_some len (suc len) offsets a e6.0;
        v_long = e7.0;
        b_long = e8.0;
        product_long = e9.0;
        out_long = e10.0;
      }

-- ---- words and numbers
finite_then : (count : ℕ) (x : Float) (b : Bool) (after : Answer) → b ≡ is_finite x → not b ≡ false → finite_threshold count x after ≡ after
finite_then count x b after e n = rw (sym e, not-false b n)

finite_bad : (count : ℕ) (x : Float) (b : Bool) (after : Answer) → b ≡ is_finite x → not b ≡ true → finite_threshold count x after ≡ Err (NumberOutOfRange count)
finite_bad count x b after e n = rw (sym e, not-true b n)

inside_on : (len : ℕ) (lanes : List ℕ) (n : ℕ) (after : Answer) → inside_to len lanes n (Ok tt) ≡ Ok tt → inside_to len lanes n after ≡ after
inside_on = inside_then

module _ (len : ℕ) (lanes : List ℕ) (n : ℕ) (coeffs : List Float) (dt dropTol : Float) where
  abbrev numbers : Answer
  numbers = number_tests len lanes n coeffs dt dropTol

  pub inside_refuses : (a : Answer) (r : Refusal) → a ≡ inside_to len lanes n (Ok tt) → a ≡ Err r → Err r ≡ numbers
  unfolding number_tests
  inside_refuses a r e f = sym (inside_refused len lanes n _ r (sym e ∙ f))

  module _ (ok : inside_to len lanes n (Ok tt) ≡ Ok tt) (first : ℕ) (is : first ≡ first_to len (not_finite coeffs)) where
    pub coeff_bad : first < len → Err (NumberOutOfRange first) ≡ numbers
    unfolding number_tests finite_to
    coeff_bad l = let z : first ≡ 0 + first = omega arith in rw (inside_on len lanes n _ ok, ← is, lt-ltb first len l) (ap (λ (i : ℕ). Err (NumberOutOfRange i)) z)

    module _ (all : len ≤ first) where
      from_step : finite_threshold len dt (finite_threshold len dropTol (Ok tt)) ≡ numbers
      unfolding number_tests finite_to
      from_step = rw (inside_on len lanes n _ ok, ← is, le-ltb first len all)

      module _ (b : Bool) (told : b ≡ is_finite dt) where
        pub step_bad : not b ≡ true → Err (NumberOutOfRange len) ≡ numbers
        step_bad h = sym (finite_bad len dt b (finite_threshold len dropTol (Ok tt)) told h) ∙ from_step

        module _ (good : not b ≡ false) (d : Bool) (told2 : d ≡ is_finite dropTol) where
          from_threshold : finite_threshold len dropTol (Ok tt) ≡ numbers
          from_threshold = sym (finite_then len dt b (finite_threshold len dropTol (Ok tt)) told good) ∙ from_step

          pub threshold_bad : not d ≡ true → Err (NumberOutOfRange len) ≡ numbers
          threshold_bad h = sym (finite_bad len dropTol d (Ok tt) told2 h) ∙ from_threshold

          pub numbers_accepted : not d ≡ false → (Ok tt) ≡ numbers
          numbers_accepted h = sym (finite_then len dropTol d (Ok tt) told2 h) ∙ from_threshold

  pub record NumbersPassed : Type 0 where
    pub inside : (i : ℕ) → i < len → outside_at lanes n i ≡ false
    pub finite : (i : ℕ) → i < len → not_finite coeffs i ≡ false

  pub numbers_passed : numbers ≡ Ok tt → NumbersPassed
  unfolding number_tests inside_to finite_to
  numbers_passed e =
      let p = passed (ltb (first_to len (outside_at lanes n)) len) _ _ e in
      let q = passed (ltb (first_to len (not_finite coeffs)) len) _ _ p.1 in
      let f = ltb-false (first_to len (outside_at lanes n)) len p.0 in
      let g = ltb-false (first_to len (not_finite coeffs)) len q.0 in
      record { inside = λ i h. first_before len (outside_at lanes n) i (omega arith); finite = λ i h. first_before len (not_finite coeffs) i (omega arith) }

-- the first coefficients
pub first_finite : (len : ℕ) (coeffs : List Float) → len ≤ length coeffs → ((i : ℕ) → i < len → not_finite coeffs i ≡ false) → AllFinite (take len coeffs)
unfolding not_finite
first_finite len coeffs long f k h =
    let z = length-take-le len coeffs long in
    ap (λ (x : Float). not (is_finite x)) (get_or-take len coeffs k nan (omega arith)) ∙ f k (omega arith)
