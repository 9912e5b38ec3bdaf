-- SPDX-FileCopyrightText: 2026 The PPVM Authors
-- SPDX-License-Identifier: Apache-2.0

-- The tests of a lent matrix and of a product, answer by answer; and what is known where they are passed. Assumes nothing.
use mathlib.Core.Path.{◌≡◌, refl, sym, ap, ◌∙◌}
use mathlib.Core.Bool.{Bool, true, false, cond, false≢true}
use mathlib.Core.List.{List}
use Prim.Native.Nat.{ℕ, ◌+◌, ◌≤◌, ◌<◌}
use native.Mathlib.Omega.{arith}
use native.Mathlib.Decide.{dec_lt}
use borrow.Author.Tests.{lt-ltb, le-ltb}
use lib.Dec.{eqb, ltb}
use lib.Ieee.{Float}
use lib.ListN.{length}
use Rattle.refusal.specs.declared.Refusal.{Refusal}
use Rattle.refusal.specs.declared.Refusal.TheVariants.{CountAboveLimit, LengthMismatch, NumberOutOfRange}
use Rattle.std.specs.Prelude.{Ok, Err}
use Rattle.refusal.specs.Cause.{Answer}
use Rattle.lent.specs.Tests.{lent, first_to, entries, and_then, equal}
use Rattle.lent.proofs.Firsts.{NoneBefore, first_none, first_before}
use Rattle.lent.proofs.OneTest.{entries_refused, entries_passed}
use Rattle.lent.proofs.Passed.{equal_passed, lent_passed, counted_passed}
use Rattle.lent.specs.Words.{max_words}
use Rattle.lent.specs.Numbers.{not_finite}
use Rattle.csr.specs.Lent.{bad_offset, bad_column, rows_tests, places_tests}
use Rattle.csr.specs.Products.{length_tests, table_tests}

abbrev pub accepts : Answer → Bool
accepts (Ok _) = true
accepts (Err r) = false

-- where the first tests refuse, so do all; where they are passed, the others decide
pub refused_then : (a after : Answer) (r : Refusal) → a ≡ Err r → a ≡ and_then a after
refused_then a after r e = rw e

pub passed_then : (a after : Answer) → a ≡ Ok tt → after ≡ and_then a after
passed_then a after e = rw e

-- a table whose entries pass, and what comes after it
pub entries_sound : (n : ℕ) (f : ℕ → Bool) (after : Answer) → entries n f after ≡ Ok tt → NoneBefore f n × (after ≡ Ok tt)
entries_sound n f after e = go (dec_lt (first_to n f) n)
  where
    go : Dec (first_to n f < n) → NoneBefore f n × (after ≡ Ok tt)
    go (yes l) = absurd (false≢true (ap accepts (entries_refused n f after refl l ∙ e)))
    go (no l) = ((λ i m. first_before n f i (omega arith)), entries_passed n f after refl (omega arith) ∙ e)

-- ---- a lent matrix: 8, 9
module _ (rows : ℕ) (offsets : List ℕ) where
  pub rows_above : max_words < rows → Err (CountAboveLimit rows) ≡ rows_tests rows offsets (Ok tt)
  rows_above l = rw (lt-ltb max_words rows l)

  module _ (h : rows ≤ max_words) where
    pub offsets_differ : eqb (length offsets) (rows + 1) ≡ false → Err (LengthMismatch (rows + 1) (length offsets)) ≡ rows_tests rows offsets (Ok tt)
    offsets_differ e = rw (le-ltb max_words rows h, e)

    pub rows_accepted : eqb (length offsets) (rows + 1) ≡ true → (Ok tt) ≡ rows_tests rows offsets (Ok tt)
    rows_accepted e = rw (le-ltb max_words rows h, e)

  two_then : (r1 r2 : Refusal) (after : Answer) (b1 b2 : Bool) → cond b1 (Err r1) (cond b2 after (Err r2)) ≡ and_then (cond b1 (Err r1) (cond b2 (Ok tt) (Err r2))) after
  two_then r1 r2 after true b2 = refl
  two_then r1 r2 after false true = refl
  two_then r1 r2 after false false = refl

  pub rows_then : (after : Answer) → rows_tests rows offsets after ≡ and_then (rows_tests rows offsets (Ok tt)) after
  rows_then after = two_then (CountAboveLimit rows) (LengthMismatch (rows + 1) (length offsets)) after (ltb max_words rows) (eqb (length offsets) (rows + 1))

  pub rows_agree : rows_tests rows offsets (Ok tt) ≡ Ok tt → length offsets ≡ rows + 1
  rows_agree e = (equal_passed (rows + 1) (length offsets) _ (counted_passed max_words rows _ e).1).0

-- ---- a lent matrix: 7
module _ (rows : ℕ) (offsets columns : List ℕ) where
  abbrev places : Answer → Answer
  places = places_tests rows offsets columns

  module _ {o : ℕ} (eo : o ≡ first_to (rows + 1) (bad_offset rows (length columns) offsets)) where
    pub offset_bad : o < rows + 1 → Err (NumberOutOfRange o) ≡ places (Ok tt)
    offset_bad l = entries_refused (rows + 1) (bad_offset rows (length columns) offsets) _ eo l

    module _ (ho : rows + 1 ≤ o) {k : ℕ} (ek : k ≡ first_to (length columns) (bad_column rows offsets columns)) where
      from_columns : entries (length columns) (bad_column rows offsets columns) (Ok tt) ≡ places (Ok tt)
      from_columns = entries_passed (rows + 1) (bad_offset rows (length columns) offsets) _ eo ho

      pub column_bad : k < length columns → Err (NumberOutOfRange k) ≡ places (Ok tt)
      column_bad l = entries_refused (length columns) (bad_column rows offsets columns) (Ok tt) ek l ∙ from_columns

      pub places_accepted : length columns ≤ k → (Ok tt) ≡ places (Ok tt)
      places_accepted l = entries_passed (length columns) (bad_column rows offsets columns) (Ok tt) ek l ∙ from_columns

  then_two : (r1 r2 : Refusal) (after : Answer) (b1 b2 : Bool) → cond b1 (Err r1) (cond b2 (Err r2) after) ≡ and_then (cond b1 (Err r1) (cond b2 (Err r2) (Ok tt))) after
  then_two r1 r2 after true b2 = refl
  then_two r1 r2 after false true = refl
  then_two r1 r2 after false false = refl

  pub places_then : (after : Answer) → places after ≡ and_then (places (Ok tt)) after
  unfolding entries
  places_then after =
      let o : ℕ = first_to (rows + 1) (bad_offset rows (length columns) offsets) in
      let k : ℕ = first_to (length columns) (bad_column rows offsets columns) in
      then_two (NumberOutOfRange o) (NumberOutOfRange k) after (ltb o (rows + 1)) (ltb k (length columns))

-- ---- a product: 8, 9
module _ (rows : ℕ) (offsets columns : List ℕ) (values input output work : List Float) where
  abbrev tests : Answer → Answer
  tests = length_tests rows offsets columns values input output work

  abbrev own : Answer → Answer
  own after = equal (length columns) (length values) (equal rows (length input) (equal rows (length output) (lent rows (length work) after)))

  four_then : (r3 r4 r5 r6 : Refusal) (after : Answer) (b3 b4 b5 b6 : Bool)
      → cond b3 (cond b4 (cond b5 (cond b6 (Err r6) after) (Err r5)) (Err r4)) (Err r3)
      ≡ and_then (cond b3 (cond b4 (cond b5 (cond b6 (Err r6) (Ok tt)) (Err r5)) (Err r4)) (Err r3)) after
  four_then r3 r4 r5 r6 after false b4 b5 b6 = refl
  four_then r3 r4 r5 r6 after true false b5 b6 = refl
  four_then r3 r4 r5 r6 after true true false b6 = refl
  four_then r3 r4 r5 r6 after true true true true = refl
  four_then r3 r4 r5 r6 after true true true false = refl

  own_then : (after : Answer) → own after ≡ and_then (own (Ok tt)) after
  own_then after =
      four_then (LengthMismatch (length columns) (length values)) (LengthMismatch rows (length input)) (LengthMismatch rows (length output)) (LengthMismatch rows (length work)) after
      (eqb (length values) (length columns)) (eqb (length input) rows) (eqb (length output) rows) (ltb (length work) rows)

  then_then : (a b after : Answer) → and_then a (and_then b after) ≡ and_then (and_then a b) after
  then_then (Ok _) b after = refl
  then_then (Err r) b after = refl

  pub lengths_then : (after : Answer) → tests after ≡ and_then (tests (Ok tt)) after
  lengths_then after =
      rows_then rows offsets (own after) ∙ ap (and_then (rows_tests rows offsets (Ok tt))) (own_then after) ∙ then_then (rows_tests rows offsets (Ok tt)) (own (Ok tt)) after
      ∙ ap (λ (a : Answer). and_then a after) (sym (rows_then rows offsets (own (Ok tt))))

  pub rows_refused : (r : Refusal) → rows_tests rows offsets (Ok tt) ≡ Err r → Err r ≡ tests (Ok tt)
  rows_refused r e = sym e ∙ refused_then (rows_tests rows offsets (Ok tt)) (own (Ok tt)) r e ∙ sym (rows_then rows offsets (own (Ok tt)))

  module _ (h : rows_tests rows offsets (Ok tt) ≡ Ok tt) where
    from_own : own (Ok tt) ≡ tests (Ok tt)
    from_own = passed_then (rows_tests rows offsets (Ok tt)) (own (Ok tt)) h ∙ sym (rows_then rows offsets (own (Ok tt)))

    pub values_differ : eqb (length values) (length columns) ≡ false → Err (LengthMismatch (length columns) (length values)) ≡ tests (Ok tt)
    values_differ e = rw (sym from_own, e)

    module _ (h3 : eqb (length values) (length columns) ≡ true) where
      pub input_differs : eqb (length input) rows ≡ false → Err (LengthMismatch rows (length input)) ≡ tests (Ok tt)
      input_differs e = rw (sym from_own, h3, e)

      module _ (h4 : eqb (length input) rows ≡ true) where
        pub output_differs : eqb (length output) rows ≡ false → Err (LengthMismatch rows (length output)) ≡ tests (Ok tt)
        output_differs e = rw (sym from_own, h3, h4, e)

        module _ (h5 : eqb (length output) rows ≡ true) where
          pub work_short : length work < rows → Err (LengthMismatch rows (length work)) ≡ tests (Ok tt)
          work_short l = rw (sym from_own, h3, h4, h5, lt-ltb (length work) rows l)

          pub lengths_accepted : rows ≤ length work → (Ok tt) ≡ tests (Ok tt)
          lengths_accepted l = rw (sym from_own, h3, h4, h5, le-ltb (length work) rows l)

  pub record Agree : Type 0 where
    pub offsets_agree : length offsets ≡ rows + 1
    pub values_agree : length values ≡ length columns
    pub input_agrees : length input ≡ rows
    pub output_agrees : length output ≡ rows
    pub work_room : rows ≤ length work

  pub lengths_agree : tests (Ok tt) ≡ Ok tt → Agree
  lengths_agree e =
      let e1 = counted_passed max_words rows _ e in
      let e2 = equal_passed (rows + 1) (length offsets) _ e1.1 in
      let e3 = equal_passed (length columns) (length values) _ e2.1 in
      let e4 = equal_passed rows (length input) _ e3.1 in
      let e5 = equal_passed rows (length output) _ e4.1 in
      let e6 = lent_passed rows (length work) _ e5.1 in
      record { offsets_agree = e2.0; values_agree = e3.0; input_agrees = e4.0; output_agrees = e5.0; work_room = e6.0 }

-- ---- a product: 7
module _ (rows : ℕ) (offsets columns : List ℕ) (values input : List Float) (overwrite : Bool) (output : List Float) where
  abbrev all : Answer
  all = table_tests rows offsets columns values input overwrite output (Ok tt)

  abbrev output_on : Answer
  output_on = cond overwrite (Ok tt) (entries rows (not_finite output) (Ok tt))

  abbrev input_on : Answer
  input_on = entries rows (not_finite input) output_on

  abbrev values_on : Answer
  values_on = entries (length values) (not_finite values) input_on

  pub places_refused : (r : Refusal) → places_tests rows offsets columns (Ok tt) ≡ Err r → Err r ≡ all
  places_refused r e = sym e ∙ refused_then (places_tests rows offsets columns (Ok tt)) values_on r e ∙ sym (places_then rows offsets columns values_on)

  module _ (h : places_tests rows offsets columns (Ok tt) ≡ Ok tt) where
    from_values : values_on ≡ all
    from_values = passed_then (places_tests rows offsets columns (Ok tt)) values_on h ∙ sym (places_then rows offsets columns values_on)

    module _ {v : ℕ} (ev : v ≡ first_to (length values) (not_finite values)) where
      pub value_bad : v < length values → Err (NumberOutOfRange v) ≡ all
      value_bad l = entries_refused (length values) (not_finite values) input_on ev l ∙ from_values

      module _ (hv : length values ≤ v) where
        from_input : input_on ≡ all
        from_input = entries_passed (length values) (not_finite values) input_on ev hv ∙ from_values

        module _ {x : ℕ} (ex : x ≡ first_to rows (not_finite input)) where
          pub input_bad : x < rows → Err (NumberOutOfRange x) ≡ all
          input_bad l = entries_refused rows (not_finite input) output_on ex l ∙ from_input

          module _ (hx : rows ≤ x) where
            from_output : output_on ≡ all
            from_output = entries_passed rows (not_finite input) output_on ex hx ∙ from_input

            pub over_accepted : overwrite ≡ true → (Ok tt) ≡ all
            over_accepted e = sym (ap (λ (b : Bool). cond b (Ok tt) (entries rows (not_finite output) (Ok tt))) e) ∙ from_output

            module _ (adds : overwrite ≡ false) {y : ℕ} (ey : y ≡ first_to rows (not_finite output)) where
              from_added : entries rows (not_finite output) (Ok tt) ≡ all
              from_added = sym (ap (λ (b : Bool). cond b (Ok tt) (entries rows (not_finite output) (Ok tt))) adds) ∙ from_output

              pub output_bad : y < rows → Err (NumberOutOfRange y) ≡ all
              output_bad l = entries_refused rows (not_finite output) (Ok tt) ey l ∙ from_added

              pub add_accepted : rows ≤ y → (Ok tt) ≡ all
              add_accepted l = entries_passed rows (not_finite output) (Ok tt) ey l ∙ from_added

  -- what is known where all are passed, and enough for it
  pub record Sound : Type 0 where
    pub offsets_sound : NoneBefore (bad_offset rows (length columns) offsets) (rows + 1)
    pub columns_sound : NoneBefore (bad_column rows offsets columns) (length columns)
    pub values_sound : NoneBefore (not_finite values) (length values)
    pub input_sound : NoneBefore (not_finite input) rows
    pub output_sound : overwrite ≡ false → NoneBefore (not_finite output) rows

  pub sound_accepted : Sound → all ≡ Ok tt
  sound_accepted s = go overwrite refl
    where
      o : rows + 1 ≡ first_to (rows + 1) (bad_offset rows (length columns) offsets)
      o = sym (first_none (rows + 1) (bad_offset rows (length columns) offsets) s.offsets_sound)

      k : length columns ≡ first_to (length columns) (bad_column rows offsets columns)
      k = sym (first_none (length columns) (bad_column rows offsets columns) s.columns_sound)

      v : length values ≡ first_to (length values) (not_finite values)
      v = sym (first_none (length values) (not_finite values) s.values_sound)

      x : rows ≡ first_to rows (not_finite input)
      x = sym (first_none rows (not_finite input) s.input_sound)

      p : places_tests rows offsets columns (Ok tt) ≡ Ok tt
      p = sym (places_accepted rows offsets columns o (omega arith) k (omega arith))

      go : (b : Bool) → overwrite ≡ b → all ≡ Ok tt
      go true e = sym (over_accepted p v (omega arith) x (omega arith) e)
      go false e = sym (add_accepted p v (omega arith) x (omega arith) e (sym (first_none rows (not_finite output) (s.output_sound e))) (omega arith))

  pub accepted_sound : all ≡ Ok tt → Sound
  accepted_sound e =
      let e1 = entries_sound (rows + 1) (bad_offset rows (length columns) offsets) _ e in
      let e2 = entries_sound (length columns) (bad_column rows offsets columns) _ e1.1 in
      let e3 = entries_sound (length values) (not_finite values) input_on e2.1 in
      let e4 = entries_sound rows (not_finite input) output_on e3.1 in
      record {
        offsets_sound = e1.0;
        columns_sound = e2.0;
        values_sound = e3.0;
        input_sound = e4.0;
        output_sound = λ f. (entries_sound rows (not_finite output) (Ok tt) (sym (ap (λ (b : Bool). cond b (Ok tt) (entries rows (not_finite output) (Ok tt))) f) ∙ e4.1)).0;
      }
