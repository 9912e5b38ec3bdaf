-- SPDX-FileCopyrightText: 2026 The PPVM Authors
-- SPDX-License-Identifier: Apache-2.0

-- How far a step has come, from part to part: what each part asks for stands, and what it leaves is what the next asks for. Assumes
-- nothing.
use mathlib.Core.Path.{◌≡◌, refl, sym, ap, ap₂, subst, ◌∙◌}
use mathlib.Core.Bool.{Bool, true, false, cond, not, ◌&&◌, ◌||◌}
use mathlib.Core.List.{List}
use Prim.Native.Nat.{ℕ, zero, suc, ◌+◌, ◌*◌, ◌/◌, ◌≤◌, ◌<◌}
use native.Mathlib.Omega.{arith}
use borrow.Author.Tests.{eqb-true, eqb-false, eq-eqb, leb-true, leb-false}
use lib.Dec.{eqb, leb}
use lib.Ieee.{Float}
use lib.ListN.{length, take, replicate, length-replicate}
use lib.Seq.{length-take-le}
use Rattle.refusal.specs.declared.Refusal.{Refusal}
use Rattle.std.specs.Prelude.{Result, Ok, Err}
use Rattle.step_parts.specs.declared.taken.Step.{Step}
use Rattle.refusal.specs.Cause.{Answer}
use Rattle.word.specs.Flat.{words, word_lanes}
use Rattle.word.specs.declared.word.Word.{Word}
use Rattle.word.proofs.FlatLaws.{words_high}
use Rattle.number.specs.Floats.{float0, is_finite}
use Rattle.model.specs.Tested.{test_model}
use Rattle.expm.specs.Selects.{max_products}
use Rattle.lent.specs.Read.{Read}
use Rattle.limits.specs.Defaults.{limit_of, tau_of}
use Rattle.step_laws.specs.Steps.{Places, Stepped, hop, evolution, course_of}
use Rattle.step_laws.specs.Passing.{GoodWords, AreFinite}
use Rattle.step_parts.specs.Lent.{Work, work_of, zeroed, step_tests}
use Rattle.step_parts.specs.Ends.{Ending, ending}
use Rattle.step_parts.specs.Between.{Given, FiniteStep, EvolveLong, Long, SameLong, Shared, shared_of, none, Holds, HopPlaces, Hops, EvolvePlaces, EvolvesTo, PlacesOf, leg_by, Ends, EndReady, Told}
use Rattle.step_parts.proofs.ReadyLaws.{Within, within, StepPassed, step_passed, ready_given, ready_step, ready_holds, given_within, ready_long, long_same, places_same, same_twice, ready_end}
use Rattle.step_legs.specs.Between.{Follows}
use Rattle.step_legs.proofs.LegLaws.{leg_is, clear_evolved}
use Rattle.step.specs.Between.{after_first, due_of, entries_in, products_in, added_to, Start, tests_of, places_in, grown_to, given_words, given_numbers, entering, evolving, first_leg, course, Copied, Hopped, FirstHop, SecondHop, Predicted, Courses, Standing}
use Rattle.step.specs.Calls.{Stepping, step}
use Rattle.step.specs.Exports.{stepped_of, LeavesStep}
use Rattle.step.specs.declared.steps.SteppedBasis.{SteppedBasis}
use Rattle.step.proofs.CourseLaws.{course_refused, course_full, course_both}

-- ---- tables
-- a table that is zero is so over its own length
own : {A : Type 0} (x : A) (k : ℕ) (l : List A) → l ≡ replicate k x → l ≡ replicate (length l) x
own x k l e = e ∙ ap (λ (i : ℕ). replicate i x) (sym (ap length e ∙ length-replicate k x))

zero_as : {A : Type 0} (x : A) (l y y' : List A) → l ≡ replicate (length y') x → length y' ≡ length y → l ≡ replicate (length y) x
zero_as x l y y' e f = e ∙ ap (λ (i : ℕ). replicate i x) f

-- zero goes by lengths
none_same : {w w' : Work} → SameLong w w' → none (shared_of w') ≡ none (shared_of w)
none_same s = rw (s.h_index, s.j_index, s.mask, s.work_words, s.work_sums, s.order, s.heads, s.nexts, s.cand_words, s.cand_sums, s.place_order, s.place_work, s.list_words, s.list_values)

-- ---- a step that passed its tests
module _ (s : Start) (ok : tests_of s ≡ Ok tt) where
  passed : StepPassed s.model s.tables s.lanes s.coeffs s.len s.protected s.limits s.dt s.drop_tol (length s.work.h_index) (length s.work.j_index) (length s.work.mask) (length s.work.order) (length s.work.heads) (length s.work.nexts) (length s.work.place_order) (length s.work.cand_sums) (length s.work.list_values) (length s.work.work_sums) (length s.work.grown_words) (length s.work.start) (length s.work.evolved)
  passed = step_passed s.model s.tables s.lanes s.coeffs s.len s.protected s.limits s.dt s.drop_tol (length s.work.h_index) (length s.work.j_index) (length s.work.mask) (length s.work.order) (length s.work.heads) (length s.work.nexts) (length s.work.place_order) (length s.work.cand_sums) (length s.work.list_values) (length s.work.work_sums) (length s.work.grown_words) (length s.work.start) (length s.work.evolved) ok

  pub given : Given s.model s.tables s.protected s.limits
  given = ready_given s.model s.tables s.lanes s.coeffs s.len s.protected s.limits s.dt s.drop_tol passed.given passed.numbers

  pub finite : FiniteStep s.dt s.drop_tol
  finite = ready_step s.model s.tables s.lanes s.coeffs s.len s.protected s.limits s.dt s.drop_tol passed.given passed.numbers

  inner : Within (length s.lanes) (length s.coeffs) (length s.work.grown_words) (length s.work.start) (length s.work.evolved) (length s.work.order) (length s.work.heads) (length s.work.nexts) (length s.work.place_order) (length s.work.cand_sums) (length s.work.list_values) (length s.work.work_sums) (length s.protected / word_lanes)
  inner = within (length s.lanes) (length s.coeffs) (length s.work.grown_words) (length s.work.start) (length s.work.evolved) (length s.work.order) (length s.work.heads) (length s.work.nexts) (length s.work.place_order) (length s.work.cand_sums) (length s.work.list_values) (length s.work.work_sums) (length s.protected / word_lanes)

  long : Long s.model.qubits (length s.protected / word_lanes) (grown_to s) s.len s.work
  long = ready_long s.model.qubits s.len (length s.protected / word_lanes) (length s.lanes) (length s.coeffs) s.work passed.work

  fits : s.len ≤ grown_to s
  fits = given_within (length s.lanes) (length s.coeffs) (length s.work.grown_words) (length s.work.start) (length s.work.evolved) (length s.work.order) (length s.work.heads) (length s.work.nexts) (length s.work.place_order) (length s.work.cand_sums) (length s.work.list_values) (length s.work.work_sums) (length s.protected / word_lanes) s.model.qubits s.len (length s.work.h_index) (length s.work.j_index) (length s.work.mask) passed.given.words_long passed.given.coeffs_long passed.work

  -- as many numbers as words are given
  each : length (given_numbers s) ≤ length (given_words s)
  each = omega (arith, length-take-le s.len s.coeffs passed.given.coeffs_long, length-take-le s.len (words s.lanes) (omega (arith, passed.given.words_long, words_high s.lanes)))

  places_in_lem : (w : Work) → SameLong s.work w → PlacesOf (places_in s) (grown_to s) w
  places_in_lem w same = places_same same (record { hop = record { touched = refl; candidates = refl; listed = refl; basis = refl }; evolve = record { touched = refl; entries = refl } })

  -- words in tables of a step lie within them
  within_grown : (w : Work) → SameLong s.work w → (k : ℕ) → k ≤ grown_to s → word_lanes * k ≤ length w.grown_words
  within_grown w same k h = omega (arith, h, inner.grown_within, same.grown_words)

  copied_holds : (taken : Result Step Refusal) (w : Work) → Copied s taken w → Holds s.model.qubits (grown_to s) s.len w.grown_words w.start w.evolved
  copied_holds taken w c = ready_holds s.model s.tables s.lanes s.coeffs s.len s.protected s.limits s.dt s.drop_tol passed.given passed.numbers passed.apart (grown_to s) fits w.grown_words w.start w.evolved c.words_are c.start_is c.evolved_is

-- ---- the next part
module _ (s : Start) (taken : Result Step Refusal) (hopped : Result ℕ Refusal) (w : Work) (same : SameLong s.work w) (accepted : tests_of s ≡ Ok tt) where
  stands_1 : Copied s taken w → Standing s 1 taken hopped s.lanes s.coeffs w
  stands_1 h = record {
    few = omega arith;
    same = same;
    lanes_long = refl;
    coeffs_long = refl;
    lanes_stay = λ e. refl;
    coeffs_stay = λ e. refl;
    accepted = λ e. accepted;
    nothing = λ e. absurd (omega (arith, e));
    copied = λ e. h;
    first_hop = λ e. absurd (omega (arith, e));
    predicted = λ e. absurd (omega (arith, e));
    second_hop = λ e. absurd (omega (arith, e));
    course_done = λ e. absurd (omega (arith, e));
    done = λ e. absurd (omega (arith, e));
  }

  stands_2 : FirstHop s taken hopped w → Standing s 2 taken hopped s.lanes s.coeffs w
  stands_2 h = record {
    few = omega arith;
    same = same;
    lanes_long = refl;
    coeffs_long = refl;
    lanes_stay = λ e. refl;
    coeffs_stay = λ e. refl;
    accepted = λ e. accepted;
    nothing = λ e. absurd (omega (arith, e));
    copied = λ e. absurd (omega (arith, e));
    first_hop = λ e. h;
    predicted = λ e. absurd (omega (arith, e));
    second_hop = λ e. absurd (omega (arith, e));
    course_done = λ e. absurd (omega (arith, e));
    done = λ e. absurd (omega (arith, e));
  }

  stands_3 : Predicted s taken w → Standing s 3 taken hopped s.lanes s.coeffs w
  stands_3 h = record {
    few = omega arith;
    same = same;
    lanes_long = refl;
    coeffs_long = refl;
    lanes_stay = λ e. refl;
    coeffs_stay = λ e. refl;
    accepted = λ e. accepted;
    nothing = λ e. absurd (omega (arith, e));
    copied = λ e. absurd (omega (arith, e));
    first_hop = λ e. absurd (omega (arith, e));
    predicted = λ e. h;
    second_hop = λ e. absurd (omega (arith, e));
    course_done = λ e. absurd (omega (arith, e));
    done = λ e. absurd (omega (arith, e));
  }

  stands_4 : SecondHop s taken hopped w → Standing s 4 taken hopped s.lanes s.coeffs w
  stands_4 h = record {
    few = omega arith;
    same = same;
    lanes_long = refl;
    coeffs_long = refl;
    lanes_stay = λ e. refl;
    coeffs_stay = λ e. refl;
    accepted = λ e. accepted;
    nothing = λ e. absurd (omega (arith, e));
    copied = λ e. absurd (omega (arith, e));
    first_hop = λ e. absurd (omega (arith, e));
    predicted = λ e. absurd (omega (arith, e));
    second_hop = λ e. h;
    course_done = λ e. absurd (omega (arith, e));
    done = λ e. absurd (omega (arith, e));
  }

  stands_5 : Courses s taken w → Standing s 5 taken hopped s.lanes s.coeffs w
  stands_5 h = record {
    few = omega arith;
    same = same;
    lanes_long = refl;
    coeffs_long = refl;
    lanes_stay = λ e. refl;
    coeffs_stay = λ e. refl;
    accepted = λ e. accepted;
    nothing = λ e. absurd (omega (arith, e));
    copied = λ e. absurd (omega (arith, e));
    first_hop = λ e. absurd (omega (arith, e));
    predicted = λ e. absurd (omega (arith, e));
    second_hop = λ e. absurd (omega (arith, e));
    course_done = λ e. h;
    done = λ e. absurd (omega (arith, e));
  }

-- ---- which part is due
-- there is room for a second hop
pub record Room (s : Start) (taken : Result Step Refusal) : Type 0 where
  pub k : ℕ
  pub products : ℕ
  pub taken_is : taken ≡ Ok (record { entries = k; products = products })
  pub room : k < limit_of s.limits

pub record Due (s : Start) (part due : ℕ) (taken : Result Step Refusal) (hopped : Result ℕ Refusal) (w : Work) : Type 0 where
  pub stands : Standing s due taken hopped s.lanes s.coeffs w
  pub onward : part ≤ due
  pub below : due < 6
  pub room : due ≡ 3 → Room s taken

pub due_stands : (s : Start) (part : ℕ) (taken : Result Step Refusal) (hopped : Result ℕ Refusal) (lanes : List ℕ) (coeffs : List Float) (w : Work) → Standing s part taken hopped lanes coeffs w → part < 6
    → (limit due : ℕ) → limit ≡ limit_of s.limits → due ≡ due_of part limit taken → Due s part due taken hopped w
unfolding due_of
due_stands s part taken hopped lanes coeffs w st below limit due is e = go (eqb part 3) refl
  where
    here : Standing s part taken hopped s.lanes s.coeffs w
    here = subst (λ (l : List ℕ). Standing s part taken hopped l s.coeffs w) (st.lanes_stay below) (subst (λ (c : List Float). Standing s part taken hopped lanes c w) (st.coeffs_stay below) st)

    ended : (r : Result Step Refusal) → taken ≡ r → (due ≡ 5) → part ≡ 3 → Courses s taken w → Due s part due taken hopped w
    ended r i f p c = record {
      stands = subst (λ (d : ℕ). Standing s d taken hopped s.lanes s.coeffs w) (sym f) (stands_5 s taken hopped w st.same (st.accepted (omega (arith, p))) c);
      onward = omega (arith, f, p);
      below = omega (arith, f);
      room = λ g. absurd (omega (arith, f, g));
    }

    three : part ≡ 3 → (r : Result Step Refusal) → taken ≡ r → due ≡ after_first limit r → Due s part due taken hopped w
    three p (Err q) i f =
        let ok = st.accepted (omega (arith, p)) in
        let d = st.predicted p in
        ended (Err q) i f p (course_refused s (each s ok) w taken d.first d.clear q i)
    three p (Ok step) i f = room (leb limit step.entries) refl
      where
        room : (b : Bool) → leb limit step.entries ≡ b → Due s part due taken hopped w
        room true g =
            let ok = st.accepted (omega (arith, p)) in
            let d = st.predicted p in
            let h = d.first.ended step.entries step.products i in
            ended (Ok step) i (f ∙ ap (λ (b : Bool). cond b 5 3) g) p
            (course_full s (each s ok) w taken d.first step.entries step.products i (within_grown s ok w st.same step.entries h.holds.inside) d.clear (omega (arith, is, leb-true limit step.entries g)))
        room false g =
            let z : due ≡ 3 = f ∙ ap (λ (b : Bool). cond b 5 3) g in
            record {
              stands = subst (λ (d : ℕ). Standing s d taken hopped s.lanes s.coeffs w) (p ∙ sym z) here;
              onward = omega (arith, z, p);
              below = omega (arith, z);
              room = λ y. record { k = step.entries; products = step.products; taken_is = i; room = omega (arith, is, leb-false limit step.entries g) };
            }

    go : (b : Bool) → eqb part 3 ≡ b → Due s part due taken hopped w
    go true p = three (eqb-true part 3 p) taken refl (e ∙ ap (λ (b : Bool). cond b (after_first limit taken) part) p)
    go false p =
        let z : due ≡ part = e ∙ ap (λ (b : Bool). cond b (after_first limit taken) part) p in
        record {
          stands = subst (λ (d : ℕ). Standing s d taken hopped s.lanes s.coeffs w) (sym z) here;
          onward = omega (arith, z);
          below = omega (arith, z, below);
          room = λ y. absurd (eqb-false part 3 p (sym z ∙ y));
        }

-- the lent basis is the given one as long as nothing is handed over
pub back : (s : Start) (k : ℕ) (taken : Result Step Refusal) (hopped : Result ℕ Refusal) (lanes : List ℕ) (coeffs : List Float) (w : Work) → lanes ≡ s.lanes → coeffs ≡ s.coeffs → Standing s k taken hopped s.lanes s.coeffs w → Standing s k taken hopped lanes coeffs w
back s k taken hopped lanes coeffs w e f h = subst (λ (c : List Float). Standing s k taken hopped lanes c w) (sym f) (subst (λ (l : List ℕ). Standing s k taken hopped l s.coeffs w) (sym e) h)

-- tables that the beginning left as they were
pub work_same : (w : Work) (heads nexts grownWords : List ℕ) (start evolved : List Float) → heads ≡ w.heads → nexts ≡ w.nexts → grownWords ≡ w.grown_words → start ≡ w.start → evolved ≡ w.evolved
    → work_of w.h_index w.j_index w.mask w.work_words w.work_sums w.order heads nexts w.cand_words w.cand_sums w.place_order w.place_work w.list_words w.list_values w.stage_rows w.stage_columns w.columns w.values grownWords start evolved ≡ w
work_same w heads nexts grownWords start evolved eh en eg es ee = rw (eh, en, eg, es, ee)

-- ---- before anything
pub starts : (s : Start) (hopped : Result ℕ Refusal) → Standing s 0 (Ok (record { entries = s.len; products = 0 })) hopped s.lanes s.coeffs s.work
starts s hopped = record {
  few = omega arith;
  same = record { h_index = refl; j_index = refl; mask = refl; work_words = refl; work_sums = refl; order = refl; heads = refl; nexts = refl; cand_words = refl; cand_sums = refl; place_order = refl; place_work = refl; list_words = refl; list_values = refl; stage_rows = refl; stage_columns = refl; columns = refl; values = refl; grown_words = refl; start = refl; evolved = refl };
  lanes_long = refl;
  coeffs_long = refl;
  lanes_stay = λ e. refl;
  coeffs_stay = λ e. refl;
  accepted = λ e. absurd (omega (arith, e));
  nothing = λ e. (refl, refl);
  copied = λ e. absurd (omega (arith, e));
  first_hop = λ e. absurd (omega (arith, e));
  predicted = λ e. absurd (omega (arith, e));
  second_hop = λ e. absurd (omega (arith, e));
  course_done = λ e. absurd (omega (arith, e));
  done = λ e. absurd (omega (arith, e));
}

-- ---- the tests and the copy
module _ (s : Start) (due : ℕ) (taken : Result Step Refusal) (hopped : Result ℕ Refusal) (w : Work) (st : Standing s due taken hopped s.lanes s.coeffs w) (is : due ≡ 0) (a : Answer)
    (told : a ≡ step_tests s.model s.tables s.lanes s.coeffs s.len s.protected s.limits s.dt s.drop_tol (length w.h_index) (length w.j_index) (length w.mask) (length w.order) (length w.heads) (length w.nexts) (length w.place_order) (length w.cand_sums) (length w.list_values) (length w.work_sums) (length w.grown_words) (length w.start) (length w.evolved)) where
  tests_are : a ≡ tests_of s
  tests_are = told ∙ ap (λ (v : Work). step_tests s.model s.tables s.lanes s.coeffs s.len s.protected s.limits s.dt s.drop_tol (length v.h_index) (length v.j_index) (length v.mask) (length v.order) (length v.heads) (length v.nexts) (length v.place_order) (length v.cand_sums) (length v.list_values) (length v.work_sums) (length v.grown_words) (length v.start) (length v.evolved)) (st.nothing is).1

  pub begun : a ≡ Ok tt → (w' : Work) → SameLong w w' → take s.len (words w'.grown_words) ≡ given_words s → take s.len w'.start ≡ given_numbers s → take s.len w'.evolved ≡ given_numbers s
      → Standing s (due + 1) taken hopped s.lanes s.coeffs w'
  begun ok w' same ew es ee =
      let z : 1 ≡ due + 1 = omega (arith, is) in
      subst (λ (d : ℕ). Standing s d taken hopped s.lanes s.coeffs w') z
      (stands_1 s taken hopped w' (same_twice st.same same) (sym tests_are ∙ ok) (record { taken_is = (st.nothing is).0; words_are = ew; start_is = es; evolved_is = ee }))

  pub turned_away : (q : Refusal) → a ≡ Err q → (w' : Work) → w' ≡ w → (r : SteppedBasis) → r ≡ stepped_of (Err q)
      → LeavesStep (step s.model s.tables s.lanes s.coeffs s.len s.protected s.limits s.dt s.drop_tol s.work) r s.lanes s.coeffs w'
  unfolding step
  turned_away q e w' i r f = rw (← tests_are, e) (record { answers = f; words_are = refl; coeffs_are = refl; work_is = i ∙ (st.nothing is).1 })

-- ---- a hop
module _ (s : Start) (due : ℕ) (taken : Result Step Refusal) (hopped : Result ℕ Refusal) (w : Work) (st : Standing s due taken hopped s.lanes s.coeffs w) (hops : (eqb due 1 || eqb due 3) ≡ true) (room : due ≡ 3 → Room s taken) where
  hop_some : 0 < due
  hop_some = go (eqb due 1) refl hops
    where
      go : (b : Bool) → eqb due 1 ≡ b → (b || eqb due 3) ≡ true → 0 < due
      go true e f = omega (arith, eqb-true due 1 e)
      go false e f = omega (arith, eqb-true due 3 f)

  hop_ok : tests_of s ≡ Ok tt
  hop_ok = st.accepted hop_some

  pub record Poised : Type 0 where
    pub held : Holds s.model.qubits (grown_to s) (entries_in taken) w.grown_words w.start w.evolved
    pub any : 0 < entries_in taken → 0 < s.len

  pub poised : Poised
  poised = go (eqb due 1) refl hops
    where
      go : (b : Bool) → eqb due 1 ≡ b → (b || eqb due 3) ≡ true → Poised
      go true e f =
          let c = st.copied (eqb-true due 1 e) in
          let n : entries_in taken ≡ s.len = ap entries_in c.taken_is in
          record { held = subst (λ (k : ℕ). Holds s.model.qubits (grown_to s) k w.grown_words w.start w.evolved) (sym n) (copied_holds s hop_ok taken w c); any = λ a. omega (arith, a, n) }
      go false e f =
          let z = eqb-true due 3 f in
          let r = room z in
          let h = (st.predicted z).first.ended r.k r.products r.taken_is in
          let n : entries_in taken ≡ r.k = ap entries_in r.taken_is in
          record { held = subst (λ (k : ℕ). Holds s.model.qubits (grown_to s) k w.grown_words w.start w.evolved) (sym n) h.holds; any = λ a. h.any (omega (arith, a, n)) }

  pub hop_long : Long s.model.qubits (length s.protected / word_lanes) (grown_to s) (entries_in taken) w
  hop_long = long_same st.same (long s hop_ok) (entries_in taken) poised.any

  pub hop_given : Given s.model s.tables s.protected s.limits
  hop_given = given s hop_ok

  module _ (hopped' : Result ℕ Refusal) (w' : Work) (same : SameLong w w')
      (hops' : (p : Places) (dt : Float) → HopPlaces p (grown_to s) w.work_words w.work_sums w.cand_words w.cand_sums w.place_order w.place_work w.list_words w.list_values
      → Hops (hop s.model s.tables (words s.protected) dt p (limit_of s.limits) (tau_of s.limits) (take (entries_in taken) (words w.grown_words)) (take (entries_in taken) w.evolved)) s.model.qubits (grown_to s) (entries_in taken) w.grown_words w.start hopped' w'.grown_words w'.start)
      (unchanged : w'.evolved ≡ w.evolved) (clear : shared_of w' ≡ none (shared_of w)) where
    leaves : Hopped s (entries_in taken) hopped' w w'
    leaves = record {
      same = st.same;
      held = poised.held;
      hops = hops' (places_in s) s.dt (places_in_lem s hop_ok w st.same).hop;
      unchanged = unchanged;
      clear = clear ∙ none_same st.same;
    }

    pub hop_stands : Standing s (due + 1) taken hopped' s.lanes s.coeffs w'
    hop_stands = go (eqb due 1) refl hops
      where
        go : (b : Bool) → eqb due 1 ≡ b → (b || eqb due 3) ≡ true → Standing s (due + 1) taken hopped' s.lanes s.coeffs w'
        go true e f =
            let c = st.copied (eqb-true due 1 e) in
            let z : 2 ≡ due + 1 = omega (arith, eqb-true due 1 e) in
            subst (λ (d : ℕ). Standing s d taken hopped' s.lanes s.coeffs w') z
            (stands_2 s taken hopped' w' (same_twice st.same same) hop_ok (record { before = w; copied = c; leaves = subst (λ (k : ℕ). Hopped s k hopped' w w') (ap entries_in c.taken_is) leaves }))
        go false e f =
            let y = eqb-true due 3 f in
            let r = room y in
            let z : 4 ≡ due + 1 = omega (arith, y) in
            subst (λ (d : ℕ). Standing s d taken hopped' s.lanes s.coeffs w') z
            (stands_4 s taken hopped' w' (same_twice st.same same) hop_ok (record {
              before = w;
              k = r.k;
              products = r.products;
              taken_is = r.taken_is;
              room = r.room;
              first = (st.predicted y).first;
              leaves = subst (λ (k : ℕ). Hopped s k hopped' w w') (ap entries_in r.taken_is) leaves;
            }))

-- ---- an evolution
last : (d : ℕ) → d < 6 → (d ≡ 0 → ⊥) → (d ≡ 1 → ⊥) → (d ≡ 2 → ⊥) → (d ≡ 3 → ⊥) → (d ≡ 5 → ⊥) → d ≡ 4
last zero h a b c d e = absurd (a refl)
last (suc zero) h a b c d e = absurd (b refl)
last (suc (suc zero)) h a b c d e = absurd (c refl)
last (suc (suc (suc zero))) h a b c d e = absurd (d refl)
last (suc (suc (suc (suc zero)))) h a b c d e = refl
last (suc (suc (suc (suc (suc zero))))) h a b c d e = absurd (e refl)
last (suc (suc (suc (suc (suc (suc n)))))) h a b c d e = absurd (omega (arith, h))

products_few : (plain : Read Stepped) (n places len : ℕ) (start : List Float) (r : Result Step Refusal) (w : Work) → Ends plain n places len start r w → products_in r ≤ max_products
products_few plain n places len start (Err q) w e = omega arith
products_few plain n places len start (Ok step) w e = (e.ended step.entries step.products refl).few

module _ (s : Start) (due : ℕ) (taken : Result Step Refusal) (hopped : Result ℕ Refusal) (w : Work) (st : Standing s due taken hopped s.lanes s.coeffs w) (below : due < 6) (not-0 : due ≡ 0 → ⊥) (not-5 : due ≡ 5 → ⊥) (not-hop : (eqb due 1 || eqb due 3) ≡ false) where
  -- what is left: the predictor and the corrector
  either : (due ≡ 2 → ⊥) → due ≡ 4
  either n = last due below not-0 (no_1 (eqb due 1) refl not-hop) n (no_3 (eqb due 1) (eqb due 3) refl not-hop) not-5
    where
      no_1 : (x : Bool) → eqb due 1 ≡ x → (x || eqb due 3) ≡ false → due ≡ 1 → ⊥
      no_1 true e f = absurd (let z : ◌≡◌ {A = ℕ} 0 1 = cc in omega arith)
      no_1 false e f = eqb-false due 1 e

      no_3 : (x y : Bool) → eqb due 3 ≡ y → (x || y) ≡ false → due ≡ 3 → ⊥
      no_3 true y e f = absurd (let z : ◌≡◌ {A = ℕ} 0 1 = cc in omega arith)
      no_3 false true e f = absurd (let z : ◌≡◌ {A = ℕ} 0 1 = cc in omega arith)
      no_3 false false e f = eqb-false due 3 e

  two_or_four : (b : Bool) → eqb due 2 ≡ b → due ≡ cond b 2 4
  two_or_four true e = eqb-true due 2 e
  two_or_four false e = either (eqb-false due 2 e)

  evolve_some : 0 < due
  evolve_some = omega (arith, not-0)

  evolve_ok : tests_of s ≡ Ok tt
  evolve_ok = st.accepted evolve_some

  -- the hop before it
  pub record Before : Type 0 where
    pub before : Work
    pub leaves : Hopped s (entries_in taken) hopped before w
    pub any : 0 < entries_in taken → 0 < s.len
    pub few : products_in taken ≤ max_products

  pub before_it : Before
  before_it = go (eqb due 2) refl
    where
      go : (b : Bool) → eqb due 2 ≡ b → Before
      go true e =
          let h = st.first_hop (two_or_four true e) in
          let n : entries_in taken ≡ s.len = ap entries_in h.copied.taken_is in
          let p : products_in taken ≡ 0 = ap products_in h.copied.taken_is in
          record { before = h.before; leaves = subst (λ (k : ℕ). Hopped s k hopped h.before w) (sym n) h.leaves; any = λ a. omega (arith, a, n); few = omega (arith, p) }
      go false e =
          let h = st.second_hop (two_or_four false e) in
          let n : entries_in taken ≡ h.k = ap entries_in h.taken_is in
          let d = h.first.ended h.k h.products h.taken_is in
          let p : products_in taken ≡ h.products = ap products_in h.taken_is in
          record { before = h.before; leaves = subst (λ (k : ℕ). Hopped s k hopped h.before w) (sym n) h.leaves; any = λ a. d.any (omega (arith, a, n)); few = omega (arith, p, d.few) }

  pub evolve_given : (test_model s.model s.tables ≡ Ok tt) × (is_finite s.dt ≡ true) × (is_finite s.drop_tol ≡ true)
  evolve_given = ((given s evolve_ok).model, (finite s evolve_ok).dt_finite, (finite s evolve_ok).drop_finite)

  pub evolve_ready : (k : ℕ) → hopped ≡ Ok k
      → EvolveLong s.model.qubits (grown_to s) k w.h_index w.j_index w.mask w.heads w.nexts w.place_order w.grown_words w.cand_sums w.list_values w.work_sums w.start w.evolved
      × GoodWords s.model.qubits (take k (words w.grown_words)) × AreFinite (take k w.start) × (k ≤ grown_to s)
  evolve_ready k e =
      let h = before_it.leaves.hops.enters k e in
      ((long_same st.same (long s evolve_ok) k (λ a. before_it.any (h.any a))).evolve, h.good, h.start_finite, h.inside)

  pub zero_h_index : w.h_index ≡ replicate (length w.h_index) 0
  zero_h_index = own 0 (length s.work.h_index) w.h_index (ap (λ (x : Shared). x.h_index) before_it.leaves.clear)

  pub zero_j_index : w.j_index ≡ replicate (length w.j_index) 0
  zero_j_index = own 0 (length s.work.j_index) w.j_index (ap (λ (x : Shared). x.j_index) before_it.leaves.clear)

  pub zero_mask : w.mask ≡ replicate (length w.mask) 0
  zero_mask = own 0 (length s.work.mask) w.mask (ap (λ (x : Shared). x.mask) before_it.leaves.clear)

  pub zero_work_words : w.work_words ≡ replicate (length w.work_words) 0
  zero_work_words = own 0 (length s.work.work_words) w.work_words (ap (λ (x : Shared). x.work_words) before_it.leaves.clear)

  pub zero_work_sums : w.work_sums ≡ replicate (length w.work_sums) float0
  zero_work_sums = own float0 (length s.work.work_sums) w.work_sums (ap (λ (x : Shared). x.work_sums) before_it.leaves.clear)

  pub zero_heads : w.heads ≡ replicate (length w.heads) 0
  zero_heads = own 0 (length s.work.heads) w.heads (ap (λ (x : Shared). x.heads) before_it.leaves.clear)

  pub zero_nexts : w.nexts ≡ replicate (length w.nexts) 0
  zero_nexts = own 0 (length s.work.nexts) w.nexts (ap (λ (x : Shared). x.nexts) before_it.leaves.clear)

  pub zero_cand_sums : w.cand_sums ≡ replicate (length w.cand_sums) float0
  zero_cand_sums = own float0 (length s.work.cand_sums) w.cand_sums (ap (λ (x : Shared). x.cand_sums) before_it.leaves.clear)

  pub zero_place_order : w.place_order ≡ replicate (length w.place_order) 0
  zero_place_order = own 0 (length s.work.place_order) w.place_order (ap (λ (x : Shared). x.place_order) before_it.leaves.clear)

  pub zero_list_values : w.list_values ≡ replicate (length w.list_values) float0
  zero_list_values = own float0 (length s.work.list_values) w.list_values (ap (λ (x : Shared). x.list_values) before_it.leaves.clear)

  module _ (always : Bool) (told : always ≡ eqb due 2) (done : Result Step Refusal) (w' : Work) (same : SameLong w w') (eg : w'.grown_words ≡ w.grown_words) (es : w'.start ≡ w.start)
      (follows : Follows hopped always (entries_in taken) done w.evolved w'.evolved)
      (goes : (p : Places) (protected : List Word) (k : ℕ) → EvolvePlaces p w.work_words w.work_sums w.stage_rows w.stage_columns w.cand_sums w.columns w.values → hopped ≡ Ok k → (not always && eqb k (entries_in taken)) ≡ false
      → EvolvesTo (evolution s.model s.tables protected s.dt p s.drop_tol (take k (words w.grown_words)) (take k w.start)) k done w'.evolved) where
    leg_of : (k : ℕ) → entries_in taken ≡ k → (before : Work) → Hopped s k hopped before w
        → Ends (leg_by (entering s) (evolving s) always (take k (words before.grown_words)) (take k before.start) (take k before.evolved)) s.model.qubits (grown_to s) k (take k before.start) done w'
    leg_of k i before l =
        leg_is (entering s) (evolving s) always s.model.qubits (grown_to s) k before l.held w w' l.unchanged eg es hopped l.hops done
        (subst (λ (j : ℕ). Follows hopped always j done w.evolved w'.evolved) i follows)
        (λ j e f. goes (places_in s) (words s.protected) j (places_in_lem s evolve_ok w st.same).evolve e (ap (λ (x : ℕ). not always && eqb j x) i ∙ f))

    -- over the given basis
    first_leg_lem : due ≡ 2 → Ends (first_leg s) s.model.qubits (grown_to s) s.len (given_numbers s) done w'
    first_leg_lem y =
        let h = st.first_hop y in
        let c = h.copied in
        let n : ℕ = s.model.qubits in
        let W : List Word = take s.len (words h.before.grown_words) in
        let N : List Float = take s.len h.before.evolved in
        let l₀ = leg_of s.len (ap entries_in c.taken_is) h.before h.leaves in
        let l₁ = subst (λ (xs : List Float). Ends (leg_by (entering s) (evolving s) always W xs N) n (grown_to s) s.len xs done w') c.start_is l₀ in
        let l₂ = subst (λ (us : List Word). Ends (leg_by (entering s) (evolving s) always us (given_numbers s) N) n (grown_to s) s.len (given_numbers s) done w') c.words_are l₁ in
        let l₃ = subst (λ (xs : List Float). Ends (leg_by (entering s) (evolving s) always (given_words s) (given_numbers s) xs) n (grown_to s) s.len (given_numbers s) done w') c.evolved_is l₂ in
        subst (λ (b : Bool). Ends (leg_by (entering s) (evolving s) b (given_words s) (given_numbers s) (given_numbers s)) n (grown_to s) s.len (given_numbers s) done w') (told ∙ eq-eqb due 2 y) l₃

    second_leg : (y : due ≡ 4) → eqb due 2 ≡ false
        → Ends (leg_by (entering s) (evolving s) false (take (st.second_hop y).k (words (st.second_hop y).before.grown_words)) (take (st.second_hop y).k (st.second_hop y).before.start) (take (st.second_hop y).k (st.second_hop y).before.evolved)) s.model.qubits (grown_to s) (st.second_hop y).k (take (st.second_hop y).k (st.second_hop y).before.start) done w'
    second_leg y e =
        let h = st.second_hop y in
        subst (λ (b : Bool). Ends (leg_by (entering s) (evolving s) b (take h.k (words h.before.grown_words)) (take h.k h.before.start) (take h.k h.before.evolved)) s.model.qubits (grown_to s) h.k (take h.k h.before.start) done w') (told ∙ e)
        (leg_of h.k (ap entries_in h.taken_is) h.before h.leaves)

    pub done_few : products_in done ≤ max_products
    done_few = go (eqb due 2) refl
      where
        go : (b : Bool) → eqb due 2 ≡ b → products_in done ≤ max_products
        go true e = products_few _ _ _ _ _ done w' (first_leg_lem (two_or_four true e))
        go false e = products_few _ _ _ _ _ done w' (second_leg (two_or_four false e) e)

    module _ (z0 : w'.h_index ≡ replicate (length w.h_index) 0) (z1 : w'.j_index ≡ replicate (length w.j_index) 0) (z2 : w'.mask ≡ replicate (length w.mask) 0) (z3 : w'.work_words ≡ replicate (length w.work_words) 0) (z4 : w'.work_sums ≡ replicate (length w.work_sums) float0) (z5 : w'.heads ≡ replicate (length w.heads) 0) (z6 : w'.nexts ≡ replicate (length w.nexts) 0) (z7 : w'.cand_sums ≡ replicate (length w.cand_sums) float0) (z8 : w'.place_order ≡ replicate (length w.place_order) 0) (z9 : w'.list_values ≡ replicate (length w.list_values) float0) (k0 : w'.order ≡ w.order) (k1 : w'.cand_words ≡ w.cand_words) (k2 : w'.place_work ≡ w.place_work) (k3 : w'.list_words ≡ w.list_words) where
      clear : shared_of w' ≡ none (shared_of s.work)
      clear = clear_evolved s.work w w' before_it.leaves.clear z0 z1 z2 z3 z4 z5 z6 z7 z8 z9 k0 k1 k2 k3

      pub evolve_stands : Standing s (due + 1) (added_to taken done) hopped s.lanes s.coeffs w'
      evolve_stands = go (eqb due 2) refl
        where
          added_first : products_in taken ≡ 0 → (d : Result Step Refusal) → Ends (first_leg s) s.model.qubits (grown_to s) s.len (given_numbers s) d w' → Ends (first_leg s) s.model.qubits (grown_to s) s.len (given_numbers s) (added_to taken d) w'
          added_first i (Err q) l = l
          added_first i (Ok step) l =
              let z : products_in taken + step.products ≡ step.products = omega (arith, i) in
              subst (λ (j : ℕ). Ends (first_leg s) s.model.qubits (grown_to s) s.len (given_numbers s) (Ok (record { entries = step.entries; products = j })) w') (sym z) l

          go : (b : Bool) → eqb due 2 ≡ b → Standing s (due + 1) (added_to taken done) hopped s.lanes s.coeffs w'
          go true e =
              let y = two_or_four true e in
              let z : 3 ≡ due + 1 = omega (arith, y) in
              subst (λ (d : ℕ). Standing s d (added_to taken done) hopped s.lanes s.coeffs w') z
              (stands_3 s (added_to taken done) hopped w' (same_twice st.same same) evolve_ok (record { first = added_first (ap products_in (st.first_hop y).copied.taken_is) done (first_leg_lem y); clear = clear }))
          go false e =
              let y = two_or_four false e in
              let h = st.second_hop y in
              let z : 5 ≡ due + 1 = omega (arith, y) in
              let inside = (h.first.ended h.k h.products h.taken_is).holds.inside in
              subst (λ (d : ℕ). Standing s d (added_to taken done) hopped s.lanes s.coeffs w') z
              (stands_5 s (added_to taken done) hopped w' (same_twice st.same same) evolve_ok
              (course_both s (each s evolve_ok) h.before taken h.first h.k h.products h.taken_is (within_grown s evolve_ok h.before h.leaves.same h.k inside) h.room w' clear done (second_leg y e)))

-- ---- the end
module _ (s : Start) (due : ℕ) (taken : Result Step Refusal) (hopped : Result ℕ Refusal) (w : Work) (st : Standing s due taken hopped s.lanes s.coeffs w) (is : due ≡ 5) where
  end_ok : tests_of s ≡ Ok tt
  end_ok = st.accepted (omega (arith, is))

  courses : Courses s taken w
  courses = st.course_done is

  pub end_ready : (k products : ℕ) → taken ≡ Ok (record { entries = k; products = products })
      → EndReady s.model.qubits s.protected s.drop_tol s.limits.max_basis k w.grown_words w.evolved w.order w.heads w.nexts w.place_order × (word_lanes * k ≤ length s.lanes) × (k ≤ length s.coeffs)
  end_ready k products e =
      let h = courses.holds k products e in
      (ready_end (given s end_ok) (finite s end_ok) (long_same st.same (long s end_ok) k h.1) h.0, omega (arith, h.0.inside, (inner s end_ok).lanes_within), omega (arith, h.0.inside, (inner s end_ok).coeffs_within))

  pub end_zero_order : w.order ≡ replicate (length w.order) 0
  end_zero_order = own 0 (length s.work.order) w.order (ap (λ (x : Shared). x.order) courses.clear)

  pub end_zero_heads : w.heads ≡ replicate (length w.heads) 0
  end_zero_heads = own 0 (length s.work.heads) w.heads (ap (λ (x : Shared). x.heads) courses.clear)

  pub end_zero_nexts : w.nexts ≡ replicate (length w.nexts) 0
  end_zero_nexts = own 0 (length s.work.nexts) w.nexts (ap (λ (x : Shared). x.nexts) courses.clear)

  pub end_zero_place_order : w.place_order ≡ replicate (length w.place_order) 0
  end_zero_place_order = own 0 (length s.work.place_order) w.place_order (ap (λ (x : Shared). x.place_order) courses.clear)

  module _ (r : Result Step Refusal) (lanes' : List ℕ) (coeffs' : List Float) (w' : Work) (same : SameLong w w') (lanes-same : length lanes' ≡ length s.lanes) (coeffs-same : length coeffs' ≡ length s.coeffs)
      (ends : (c : Read Stepped) → Told c taken w.grown_words w.evolved → record { answer = r; lanes = lanes'; coeffs = coeffs' } ≡ ending (words s.protected) s.drop_tol s.limits.max_basis s.lanes s.coeffs c)
      (z0 : w'.order ≡ replicate (length w.order) 0) (z1 : w'.heads ≡ replicate (length w.heads) 0) (z2 : w'.nexts ≡ replicate (length w.nexts) 0) (z3 : w'.place_order ≡ replicate (length w.place_order) 0) (z4 : w'.stage_rows ≡ replicate (length w.stage_rows) 0) (z5 : w'.stage_columns ≡ replicate (length w.stage_columns) 0) (z6 : w'.columns ≡ replicate (length w.columns) 0) (z7 : w'.values ≡ replicate (length w.values) float0) (z8 : w'.grown_words ≡ replicate (length w.grown_words) 0) (z9 : w'.start ≡ replicate (length w.start) float0) (z10 : w'.evolved ≡ replicate (length w.evolved) float0) (k0 : w'.h_index ≡ w.h_index) (k1 : w'.j_index ≡ w.j_index) (k2 : w'.mask ≡ w.mask) (k3 : w'.work_words ≡ w.work_words) (k4 : w'.work_sums ≡ w.work_sums) (k5 : w'.cand_words ≡ w.cand_words) (k6 : w'.cand_sums ≡ w.cand_sums) (k7 : w'.place_work ≡ w.place_work) (k8 : w'.list_words ≡ w.list_words) (k9 : w'.list_values ≡ w.list_values) where
    work_zero : w' ≡ zeroed s.work
    work_zero = rw (
      k0 ∙ ap (λ (x : Shared). x.h_index) courses.clear,
      k1 ∙ ap (λ (x : Shared). x.j_index) courses.clear,
      k2 ∙ ap (λ (x : Shared). x.mask) courses.clear,
      k3 ∙ ap (λ (x : Shared). x.work_words) courses.clear,
      k4 ∙ ap (λ (x : Shared). x.work_sums) courses.clear,
      zero_as 0 w'.order s.work.order w.order z0 st.same.order,
      zero_as 0 w'.heads s.work.heads w.heads z1 st.same.heads,
      zero_as 0 w'.nexts s.work.nexts w.nexts z2 st.same.nexts,
      k5 ∙ ap (λ (x : Shared). x.cand_words) courses.clear,
      k6 ∙ ap (λ (x : Shared). x.cand_sums) courses.clear,
      zero_as 0 w'.place_order s.work.place_order w.place_order z3 st.same.place_order,
      k7 ∙ ap (λ (x : Shared). x.place_work) courses.clear,
      k8 ∙ ap (λ (x : Shared). x.list_words) courses.clear,
      k9 ∙ ap (λ (x : Shared). x.list_values) courses.clear,
      zero_as 0 w'.stage_rows s.work.stage_rows w.stage_rows z4 st.same.stage_rows,
      zero_as 0 w'.stage_columns s.work.stage_columns w.stage_columns z5 st.same.stage_columns,
      zero_as 0 w'.columns s.work.columns w.columns z6 st.same.columns,
      zero_as float0 w'.values s.work.values w.values z7 st.same.values,
      zero_as 0 w'.grown_words s.work.grown_words w.grown_words z8 st.same.grown_words,
      zero_as float0 w'.start s.work.start w.start z9 st.same.start,
      zero_as float0 w'.evolved s.work.evolved w.evolved z10 st.same.evolved,
    )

    done_is : record { answer = r; lanes = lanes'; coeffs = coeffs'; work = w' } ≡ step s.model s.tables s.lanes s.coeffs s.len s.protected s.limits s.dt s.drop_tol s.work
    unfolding step course_of
    done_is = rw end_ok (ap₂ (λ (x : Ending) (y : Work). record { answer = x.answer; lanes = x.lanes; coeffs = x.coeffs; work = y }) (ends (course s) courses.told) work_zero)

    pub end_stands : Standing s (due + 1) r hopped lanes' coeffs' w'
    end_stands =
        let z : 6 ≡ due + 1 = omega (arith, is) in
        subst (λ (d : ℕ). Standing s d r hopped lanes' coeffs' w') z
        (record {
          few = omega arith;
          same = same_twice st.same same;
          lanes_long = lanes-same;
          coeffs_long = coeffs-same;
          lanes_stay = λ e. absurd (omega (arith, e));
          coeffs_stay = λ e. absurd (omega (arith, e));
          accepted = λ e. end_ok;
          nothing = λ e. absurd (omega (arith, e));
          copied = λ e. absurd (omega (arith, e));
          first_hop = λ e. absurd (omega (arith, e));
          predicted = λ e. absurd (omega (arith, e));
          second_hop = λ e. absurd (omega (arith, e));
          course_done = λ e. absurd (omega (arith, e));
          done = λ e. done_is;
        })

-- ---- all parts taken
pub leaves_step : (s : Start) (part : ℕ) (taken : Result Step Refusal) (hopped : Result ℕ Refusal) (lanes : List ℕ) (coeffs : List Float) (w : Work) → Standing s part taken hopped lanes coeffs w → 6 ≤ part → (r : SteppedBasis) → r ≡ stepped_of taken
    → LeavesStep (step s.model s.tables s.lanes s.coeffs s.len s.protected s.limits s.dt s.drop_tol s.work) r lanes coeffs w
leaves_step s part taken hopped lanes coeffs w st all r e =
    let z : part ≡ 6 = omega (arith, st.few, all) in
    let d = st.done z in
    record {
      answers = e ∙ ap (λ (x : Stepping). stepped_of x.answer) d;
      words_are = ap (λ (x : Stepping). x.lanes) d;
      coeffs_are = ap (λ (x : Stepping). x.coeffs) d;
      work_is = ap (λ (x : Stepping). x.work) d;
    }
