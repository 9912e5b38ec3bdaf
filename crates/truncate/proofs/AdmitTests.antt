-- SPDX-FileCopyrightText: 2026 The PPVM Authors
-- SPDX-License-Identifier: Apache-2.0

-- The tests of an admission, answer by answer, and what is known where all are passed. Assumes nothing.
use mathlib.Core.Path.{◌≡◌, sym, ap, ◌∙◌}
use mathlib.Core.Bool.{true, false}
use mathlib.Core.List.{List}
use Prim.Native.Nat.{ℕ, ◌+◌, ◌*◌, ◌/◌, ◌≤◌, ◌<◌}
use native.Mathlib.Omega.{arith}
use borrow.Author.Tests.{lt-ltb, le-ltb, ltb-false, not-false}
use lib.Dec.{eqb, ltb}
use lib.Ieee.{Float, nan}
use lib.ListN.{length, get_or}
use Rattle.refusal.specs.declared.Refusal.TheVariants.{TooManyQubits, NumberOutOfRange, CountAboveLimit, LengthMismatch, WordOutsideRegister}
use Rattle.std.specs.Prelude.{Ok, Err}
use Rattle.refusal.specs.Cause.{Answer}
use Rattle.word.specs.Flat.{word_lanes}
use Rattle.word.specs.Word.{max_qubits}
use Rattle.number.specs.Floats.{is_finite}
use Rattle.lent.specs.Tests.{first_to}
use Rattle.lent.proofs.Firsts.{first_before}
use Rattle.lent.specs.Words.{max_words, outside_at, inside_to}
use Rattle.lent.proofs.Passed.{passed, equal_passed, lent_passed, counted_passed}
use Rattle.lent.specs.Numbers.{not_finite, finite_to}
use Rattle.truncate.specs.Admissions.{admit_tests}

-- ---- words and numbers, where the first that fails is known
module _ (count first : ℕ) (lanes : List ℕ) (n : ℕ) (after : Answer) (is : first ≡ first_to count (outside_at lanes n)) where
  inside_not : first < count → Err (WordOutsideRegister first) ≡ inside_to count lanes n after
  unfolding inside_to
  inside_not l = rw (sym is, lt-ltb first count l)

  inside_all : count ≤ first → after ≡ inside_to count lanes n after
  unfolding inside_to
  inside_all l = rw (sym is, le-ltb first count l)

module _ (before count first : ℕ) (numbers : List Float) (after : Answer) (is : first ≡ first_to count (not_finite numbers)) where
  finite_not : first < count → Err (NumberOutOfRange (before + first)) ≡ finite_to before count numbers after
  unfolding finite_to
  finite_not l = rw (sym is, lt-ltb first count l)

  finite_all : count ≤ first → after ≡ finite_to before count numbers after
  unfolding finite_to
  finite_all l = rw (sym is, le-ltb first count l)

-- ---- the tests in their order, each where those before it are passed
module _ (len : ℕ) (lanes : List ℕ) (coeffs : List Float) (list : List ℕ) (values : List Float) (order work kept : List ℕ) (n limit : ℕ) where
  abbrev tests : Answer
  tests = admit_tests len lanes coeffs list values order work kept n limit

  abbrev held : ℕ
  held = length lanes / word_lanes

  abbrev listed : ℕ
  listed = length list / word_lanes

  abbrev values_test : Answer
  values_test = finite_to len (length values) values (Ok tt)

  abbrev coeffs_test : Answer
  coeffs_test = finite_to 0 len coeffs values_test

  abbrev list_test : Answer
  list_test = inside_to (length values) list n coeffs_test

  pub qubits_many : max_qubits < n → Err (TooManyQubits n max_qubits) ≡ tests
  unfolding admit_tests
  qubits_many l = rw (lt-ltb max_qubits n l)

  module _ (qubits-few : n ≤ max_qubits) where
    pub basis_many : max_words < len → Err (CountAboveLimit len) ≡ tests
    unfolding admit_tests
    basis_many l = rw (le-ltb max_qubits n qubits-few, lt-ltb max_words len l)

    module _ (basis-few : len ≤ max_words) where
      pub list_many : max_words < listed → Err (CountAboveLimit listed) ≡ tests
      unfolding admit_tests
      list_many l = rw (le-ltb max_qubits n qubits-few, le-ltb max_words len basis-few, lt-ltb max_words listed l)

      module _ (list-few : listed ≤ max_words) where
        pub limit_high : max_words < limit → Err (CountAboveLimit limit) ≡ tests
        unfolding admit_tests
        limit_high l = rw (le-ltb max_qubits n qubits-few, le-ltb max_words len basis-few, le-ltb max_words listed list-few, lt-ltb max_words limit l)

        module _ (limit-low : limit ≤ max_words) where
          pub lanes_short : held < len → Err (LengthMismatch len held) ≡ tests
          unfolding admit_tests
          lanes_short l = rw (le-ltb max_qubits n qubits-few, le-ltb max_words len basis-few, le-ltb max_words listed list-few, le-ltb max_words limit limit-low, lt-ltb held len l)

          module _ (lanes-long : len ≤ held) where
            pub coeffs_short : length coeffs < len → Err (LengthMismatch len (length coeffs)) ≡ tests
            unfolding admit_tests
            coeffs_short l = rw (le-ltb max_qubits n qubits-few, le-ltb max_words len basis-few, le-ltb max_words listed list-few, le-ltb max_words limit limit-low, le-ltb held len lanes-long, lt-ltb (length coeffs) len l)

            module _ (coeffs-long : len ≤ length coeffs) where
              pub list_over : eqb (length list) (listed * word_lanes) ≡ false → Err (LengthMismatch (listed * word_lanes) (length list)) ≡ tests
              unfolding admit_tests
              list_over l = rw (le-ltb max_qubits n qubits-few, le-ltb max_words len basis-few, le-ltb max_words listed list-few, le-ltb max_words limit limit-low, le-ltb held len lanes-long, le-ltb (length coeffs) len coeffs-long, l)

              module _ (list-whole : eqb (length list) (listed * word_lanes) ≡ true) where
                pub values_differ : eqb (length values) listed ≡ false → Err (LengthMismatch listed (length values)) ≡ tests
                unfolding admit_tests
                values_differ l = rw (le-ltb max_qubits n qubits-few, le-ltb max_words len basis-few, le-ltb max_words listed list-few, le-ltb max_words limit limit-low, le-ltb held len lanes-long, le-ltb (length coeffs) len coeffs-long, list-whole, l)

                module _ (values-each : eqb (length values) listed ≡ true) where
                  pub order_short : length order < length values → Err (LengthMismatch (length values) (length order)) ≡ tests
                  unfolding admit_tests
                  order_short l = rw (le-ltb max_qubits n qubits-few, le-ltb max_words len basis-few, le-ltb max_words listed list-few, le-ltb max_words limit limit-low, le-ltb held len lanes-long, le-ltb (length coeffs) len coeffs-long, list-whole, values-each, lt-ltb (length order) (length values) l)

                  module _ (order-long : length values ≤ length order) where
                    pub work_short : length work < length values → Err (LengthMismatch (length values) (length work)) ≡ tests
                    unfolding admit_tests
                    work_short l = rw (le-ltb max_qubits n qubits-few, le-ltb max_words len basis-few, le-ltb max_words listed list-few, le-ltb max_words limit limit-low, le-ltb held len lanes-long, le-ltb (length coeffs) len coeffs-long, list-whole, values-each, le-ltb (length order) (length values) order-long, lt-ltb (length work) (length values) l)

                    module _ (work-long : length values ≤ length work) where
                      pub kept_short : length kept < length values → Err (LengthMismatch (length values) (length kept)) ≡ tests
                      unfolding admit_tests
                      kept_short l = rw (le-ltb max_qubits n qubits-few, le-ltb max_words len basis-few, le-ltb max_words listed list-few, le-ltb max_words limit limit-low, le-ltb held len lanes-long, le-ltb (length coeffs) len coeffs-long, list-whole, values-each, le-ltb (length order) (length values) order-long, le-ltb (length work) (length values) work-long, lt-ltb (length kept) (length values) l)

                      module _ (kept-long : length values ≤ length kept) where
                        reached : inside_to len lanes n list_test ≡ tests
                        unfolding admit_tests
                        reached = rw (le-ltb max_qubits n qubits-few, le-ltb max_words len basis-few, le-ltb max_words listed list-few, le-ltb max_words limit limit-low, le-ltb held len lanes-long, le-ltb (length coeffs) len coeffs-long, list-whole, values-each, le-ltb (length order) (length values) order-long, le-ltb (length work) (length values) work-long, le-ltb (length kept) (length values) kept-long)

                        module _ (outside : ℕ) (is-outside : outside ≡ first_to len (outside_at lanes n)) where
                          pub basis_outside : outside < len → Err (WordOutsideRegister outside) ≡ tests
                          basis_outside l = inside_not len outside lanes n list_test is-outside l ∙ reached

                          module _ (inside : len ≤ outside) (stray : ℕ) (is-stray : stray ≡ first_to (length values) (outside_at list n)) where
                            reached_list : list_test ≡ tests
                            reached_list = inside_all len outside lanes n list_test is-outside inside ∙ reached

                            pub list_outside : stray < length values → Err (WordOutsideRegister stray) ≡ tests
                            list_outside l = inside_not (length values) stray list n coeffs_test is-stray l ∙ reached_list

                            module _ (list_inside : length values ≤ stray) (bad-coeff : ℕ) (is-bad-coeff : bad-coeff ≡ first_to len (not_finite coeffs)) where
                              reached_coeffs : coeffs_test ≡ tests
                              reached_coeffs = inside_all (length values) stray list n coeffs_test is-stray list_inside ∙ reached_list

                              pub coeffs_bad : bad-coeff < len → Err (NumberOutOfRange bad-coeff) ≡ tests
                              coeffs_bad l =
                                  let z : bad-coeff ≡ 0 + bad-coeff = omega arith in
                                  ap (λ (k : ℕ). Err (NumberOutOfRange k)) z ∙ finite_not 0 len bad-coeff coeffs values_test is-bad-coeff l ∙ reached_coeffs

                              module _ (coeffs-good : len ≤ bad-coeff) (bad-value : ℕ) (is-bad-value : bad-value ≡ first_to (length values) (not_finite values)) where
                                reached_values : values_test ≡ tests
                                reached_values = finite_all 0 len bad-coeff coeffs values_test is-bad-coeff coeffs-good ∙ reached_coeffs

                                pub values_bad : bad-value < length values → Err (NumberOutOfRange (len + bad-value)) ≡ tests
                                values_bad l = finite_not len (length values) bad-value values (Ok tt) is-bad-value l ∙ reached_values

                                pub all_passed : length values ≤ bad-value → (Ok tt) ≡ tests
                                all_passed l = finite_all len (length values) bad-value values (Ok tt) is-bad-value l ∙ reached_values

-- ---- what is known where all tests are passed
pub record Passed (list : List ℕ) (values : List Float) (order work kept : List ℕ) : Type 0 where
  pub values_each : length values ≡ length list / word_lanes
  pub values_finite : (i : ℕ) → i < length values → is_finite (get_or values i nan) ≡ true
  pub order_long : length values ≤ length order
  pub work_long : length values ≤ length work
  pub kept_long : length values ≤ length kept

pub admit_passed : (len : ℕ) (lanes : List ℕ) (coeffs : List Float) (list : List ℕ) (values : List Float) (order work kept : List ℕ) (n limit : ℕ)
    → admit_tests len lanes coeffs list values order work kept n limit ≡ Ok tt → Passed list values order work kept
unfolding admit_tests inside_to finite_to not_finite
admit_passed len lanes coeffs list values order work kept n limit e =
    let listed : ℕ = length list / word_lanes in
    let e0 = passed (ltb max_qubits n) (TooManyQubits n max_qubits) _ e in
    let e1 = counted_passed max_words len _ e0.1 in
    let e2 = counted_passed max_words listed _ e1.1 in
    let e3 = counted_passed max_words limit _ e2.1 in
    let e4 = lent_passed len (length lanes / word_lanes) _ e3.1 in
    let e5 = lent_passed len (length coeffs) _ e4.1 in
    let e6 = equal_passed (listed * word_lanes) (length list) _ e5.1 in
    let e7 = equal_passed listed (length values) _ e6.1 in
    let e8 = lent_passed (length values) (length order) _ e7.1 in
    let e9 = lent_passed (length values) (length work) _ e8.1 in
    let e10 = lent_passed (length values) (length kept) _ e9.1 in
    let outside : ℕ = first_to len (outside_at lanes n) in
    let stray : ℕ = first_to (length values) (outside_at list n) in
    let bad-coeff : ℕ = first_to len (not_finite coeffs) in
    let bad-value : ℕ = first_to (length values) (not_finite values) in
    let e11 = passed (ltb outside len) (WordOutsideRegister outside) _ e10.1 in
    let e12 = passed (ltb stray (length values)) (WordOutsideRegister stray) _ e11.1 in
    let e13 = passed (ltb bad-coeff len) (NumberOutOfRange (0 + bad-coeff)) _ e12.1 in
    let e14 = passed (ltb bad-value (length values)) (NumberOutOfRange (len + bad-value)) _ e13.1 in
    let l = ltb-false bad-value (length values) e14.0 in
    record {
      values_each = e7.0;
      values_finite = λ i h. not-false (is_finite (get_or values i nan)) (first_before (length values) (not_finite values) i (omega arith));
      order_long = e8.0;
      work_long = e9.0;
      kept_long = e10.0;
    }
