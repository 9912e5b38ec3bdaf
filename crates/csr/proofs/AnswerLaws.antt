-- SPDX-FileCopyrightText: 2026 The PPVM Authors
-- SPDX-License-Identifier: Apache-2.0

-- The answers of a product: after the one walk, after a refusal, and after a second walk. Assumes nothing.
use mathlib.Core.Path.{◌≡◌, refl, sym, ap, ◌∙◌}
use mathlib.Core.Bool.{Bool, true, false, false≢true}
use mathlib.Core.List.{List, ◌++◌}
use Prim.Native.Nat.{ℕ, ◌+◌, ◌≤◌, ◌<◌}
use native.Mathlib.Omega.{arith}
use borrow.Author.Tests.{lt-ltb, le-ltb}
use lib.Ieee.{Float}
use lib.ListN.{get_or, length, take, drop, replicate, length-append, length-drop}
use lib.Seq.{length-take-le, take_all, take_at, drop_at}
use Rattle.refusal.specs.declared.Refusal.{Refusal}
use Rattle.refusal.specs.declared.Refusal.TheVariants.{SumNotFinite}
use Rattle.std.specs.Prelude.{Ok, Err}
use Rattle.refusal.specs.Cause.{Answer}
use Rattle.number.specs.Floats.{float0}
use Rattle.lent.specs.Tests.{first_to}
use Rattle.lent.proofs.Firsts.{NoneBefore, first_before, first_none, first_inside}
use Rattle.lent.specs.Numbers.{not_finite}
use Rattle.csr.specs.Products.{Multiplying, product, length_tests, table_tests, tested, finished, multiply}
use Rattle.csr.specs.Walks.{Ready, full_product, row_stops, Walked, Quick}
use Rattle.csr.proofs.CheckLaws.{lengths_then, lengths_agree, Sound, sound_accepted, accepted_sound}
use Rattle.csr.proofs.WalkLaws.{full_length}
use Rattle.csr.proofs.PassLaws.{passed_sound, passed_finite, zero_again, stops_first, full_product_lem, product_length}

-- ---- a walk that did not stop
module _ (offsets columns : List ℕ) (values input : List Float) (overwrite : Bool) (output work : List Float) (d : ℕ) (work' : List Float) (sized : length offsets ≡ length input + 1) (same : length values ≡ length columns) (w : Walked offsets columns values input overwrite output work d work') (all : length input ≤ d) where
  never_stopped : NoneBefore (row_stops offsets columns values input overwrite output) (length input)
  never_stopped k m = let e = w.stopped in first_before (length input) (row_stops offsets columns values input overwrite output) k (omega arith)

  laid_all : Sound (length input) offsets columns values input overwrite output → work' ≡ product (length input) offsets columns values input overwrite output ++ drop (length input) work
  laid_all s =
      let i = first_inside (length input) (row_stops offsets columns values input overwrite output) in
      let l = full_length offsets columns values input overwrite output in
      let p : List Float = full_product offsets columns values input overwrite output in
      let e : d ≡ length input = omega (arith, w.stopped) in
      w.laid ∙ ap (λ (n : ℕ). take n p ++ drop n work) e ∙ ap (λ (t : List Float). t ++ drop (length input) work) (take_all (length input) p (omega arith) ∙ full_product_lem offsets columns values input overwrite output sized same s)

module _ (offsets columns : List ℕ) (values input : List Float) (overwrite : Bool) (output : List Float) where
  abbrev rows : ℕ
  rows = length input

  abbrev products : List Float
  products = product rows offsets columns values input overwrite output

  abbrev full : List Float
  full = full_product offsets columns values input overwrite output

  abbrev tests : Answer
  tests = table_tests rows offsets columns values input overwrite output (Ok tt)

  abbrev stops : ℕ → Bool
  stops = row_stops offsets columns values input overwrite output

  module _ (work : List Float) where
    abbrev WalkedTo : ℕ → List Float → Type 0
    WalkedTo = Walked offsets columns values input overwrite output work

    abbrev QuickTo : Bool → List Float → Type 0
    QuickTo = Quick offsets columns values input overwrite output work

    front_length : (d : ℕ) → d ≤ rows → length (take d full) ≡ d
    front_length d h = let l = full_length offsets columns values input overwrite output in length-take-le d full (omega arith)

    -- ---- the one walk
    pub quick_nothing : QuickTo false work
    quick_nothing = record { passed = λ e. absurd (false≢true e); kept = λ _. refl }

    module _ (sized : length offsets ≡ rows + 1) (same : length values ≡ length columns) (enough : rows ≤ length work) (ready : Ready input overwrite output work) (d : ℕ) (work' : List Float) (w : WalkedTo d work') where
      pub quick_all : get_or offsets 0 0 ≤ 0 → get_or offsets rows 0 ≡ length columns → rows ≤ d → QuickTo true work'
      quick_all first last all =
          let none = never_stopped offsets columns values input overwrite output work d work' sized same w all in
          let z : get_or offsets 0 0 ≡ 0 = omega arith in
          let s = passed_sound offsets columns values input overwrite output sized same work ready none z last in
          record {
            passed = λ _. (
              sound_accepted rows offsets columns values input overwrite output s,
              first_none rows (not_finite products) (passed_finite offsets columns values input overwrite output sized same work ready none z last),
              laid_all offsets columns values input overwrite output work d work' sized same w all s,
            );
            kept = λ e. absurd (false≢true (sym e));
          }

      pub quick_restored : d < rows → (ys : List Float) → ys ≡ replicate (length (take d work')) float0 → QuickTo false (ys ++ drop d work')
      quick_restored l ys e = record { passed = λ f. absurd (false≢true f); kept = λ _. ap (λ (t : List Float). t ++ drop d work') e ∙ again }
        where
          again : replicate (length (take d work')) float0 ++ drop d work' ≡ work
          again =
              let e = ap (drop d) w.laid ∙ drop_at (take d full) (drop d work) d (front_length d (omega arith)) in
              let f = ap (take d) w.laid ∙ take_at (take d full) (drop d work) d (front_length d (omega arith)) in
              rw (f, front_length d (omega arith), e) (zero_again offsets columns values input overwrite output sized same work ready enough d (omega arith))

    -- ---- the answers
    abbrev answered : Multiplying
    answered = tested rows offsets columns values input overwrite output work tests (finished rows offsets columns values input overwrite output work)

    abbrev left_with : Answer → List Float → List Float → Multiplying
    left_with r output' work' = record { answer = r; output = output'; work = work' }

    pub refused_answer : (r : Refusal) (work' : List Float) → tests ≡ Err r → work' ≡ work → left_with (Err r) output work' ≡ answered
    refused_answer r work' e f = rw (e, f)

    module _ (outs : length output ≡ rows) (enough : rows ≤ length work) where
      stored_answer : (work' output'' work'' : List Float) → tests ≡ Ok tt → first_to rows (not_finite products) ≡ rows → work' ≡ products ++ drop rows work
          → output'' ≡ take (length output) work' → work'' ≡ replicate (length work') float0 → left_with (Ok tt) output'' work'' ≡ answered
      unfolding finished
      stored_answer work' output'' work'' ok f e x y =
          let l = product_length rows offsets columns values input overwrite output in
          let t : take (length output) work' ≡ products = ap (take (length output)) e ∙ take_at products (drop rows work) (length output) (l ∙ sym outs) in
          let n : length work' ≡ length work = ap length e ∙ rw (length-append, l, length-drop) (omega arith) in
          rw (ok, f, le-ltb rows rows (omega arith), x, y, t, n)

      pub quick_answer : (summed : Bool) (work' output'' work'' : List Float) → QuickTo summed work' → summed ≡ true → output'' ≡ take (length output) work' → work'' ≡ replicate (length work') float0 → left_with (Ok tt) output'' work'' ≡ answered
      quick_answer summed work' output'' work'' q e x y = let p = q.passed e in stored_answer work' output'' work'' p.0 p.1 p.2 x y

      -- ---- all tests passed, and a second walk
      module _ (sized : length offsets ≡ rows + 1) (same : length values ≡ length columns) (ok : tests ≡ Ok tt) (d : ℕ) (work' : List Float) (w : WalkedTo d work') where
        first_is : d ≡ first_to rows (not_finite products)
        first_is = w.stopped ∙ stops_first offsets columns values input overwrite output sized same (accepted_sound rows offsets columns values input overwrite output ok)

        pub late_length : length work' ≡ length work
        late_length =
            let i = first_inside rows (not_finite products) in
            let f = first_is in
            ap length w.laid ∙ rw (length-append, front_length d (omega arith), length-drop) (omega arith)

        pub late_answer : (work'' : List Float) → work'' ≡ replicate (length work') float0 → d < rows → left_with (Err (SumNotFinite d)) output work'' ≡ answered
        unfolding finished
        late_answer work'' y h = rw (ok, sym first_is, lt-ltb d rows h, y, late_length)

        pub slow_answer : (output'' work'' : List Float) → output'' ≡ take (length output) work' → work'' ≡ replicate (length work') float0 → rows ≤ d → left_with (Ok tt) output'' work'' ≡ answered
        slow_answer output'' work'' x y h =
            let i = first_inside rows (not_finite products) in
            let f = first_is in
            stored_answer work' output'' work'' ok (omega arith) (laid_all offsets columns values input overwrite output work d work' sized same w h (accepted_sound rows offsets columns values input overwrite output ok)) x y

-- ---- 8 and 9, then the rest
module _ (rows : ℕ) (offsets columns : List ℕ) (values input : List Float) (overwrite : Bool) (output work : List Float) where
  abbrev lengths : Answer
  lengths = length_tests rows offsets columns values input output work (Ok tt)

  abbrev whole : Multiplying
  whole = multiply rows offsets columns values input overwrite output work

  pub lengths_refused : (r : Refusal) → lengths ≡ Err r → ◌≡◌ {A = Multiplying} (record { answer = Err r; output = output; work = work }) whole
  unfolding multiply
  lengths_refused r e =
      rw (lengths_then rows offsets columns values input output work (table_tests rows offsets columns values input overwrite output (Ok tt)), e)

  pub lengths_passed : (m : Multiplying) → lengths ≡ Ok tt
      → m ≡ tested (length input) offsets columns values input overwrite output work (table_tests (length input) offsets columns values input overwrite output (Ok tt)) (finished (length input) offsets columns values input overwrite output work)
      → m ≡ whole
  unfolding multiply
  lengths_passed m e f =
      let h = lengths_agree rows offsets columns values input output work e in
      rw (lengths_then rows offsets columns values input output work (table_tests rows offsets columns values input overwrite output (Ok tt)), e) (rw h.input_agrees at f)
