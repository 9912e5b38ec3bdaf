-- SPDX-FileCopyrightText: 2026 The PPVM Authors
-- SPDX-License-Identifier: Apache-2.0

-- Leakage as a call: what an accepted call lists, that its passes keep the largest and tau_add lists the largest of those, that looser
-- limits lose nobody, and which words are listed. Assumes nothing.
use Rattle.std.specs.Prelude.{Result}
use mathlib.Core.Path.{◌≡◌, refl, sym, ap, ap₂, subst, ◌∙◌}
use mathlib.Core.Bool.{Bool, true, false, cond}
use mathlib.Core.List.{List}
use Prim.Native.Nat.{ℕ, zero, suc, ◌*◌, ◌/◌, ◌^◌, ◌≤◌, ◌<◌}
use native.Mathlib.Omega.{arith}
use borrow.Author.Tests.{ltb-true, ltb-false}
use lib.Dec.{T, ltb, eqb}
use lib.Ieee.{Float, nan, binary64, fits, lt, is_nan, round}
use lib.Ieee.Fits.{round-fits}
use lib.ListN.{length, get_or, set}
use lib.Seq.{length-take-le}
use Rattle.refusal.specs.declared.Refusal.{Refusal}
use Rattle.refusal.specs.declared.Refusal.TheVariants.{TableFull, NumberOutOfRange}
use Rattle.std.specs.Prelude.{Ok, Err}
use Rattle.refusal.specs.Cause.{Answer}
use Rattle.word.specs.Word.{identity, Sound}
use Rattle.word.specs.Flat.{words, lay_word, word_lanes}
use Rattle.word.proofs.FlatLaws.{words_high}
use Rattle.word.specs.declared.word.Word.{Word}
use Rattle.number.specs.Floats.{float0, is_finite}
use Rattle.number.specs.Key.{key}
use Rattle.keep.proofs.PruneLaws.{Number}
use Rattle.candidates.specs.Sums.{Row}
use Rattle.candidates.specs.Tables.{Rows, candidate_rows}
use Rattle.model.specs.Stored.{ModelTables}
use Rattle.lent.specs.Read.{Read, got, refused}
use Rattle.lent.specs.Laid.{laid}
use Rattle.model.specs.Tested.{test_model}
use Rattle.model.specs.declared.stored.Model.{Model}
use Rattle.lent.proofs.Passed.{both, equal_passed, lent_passed, counted_passed}
use Rattle.lent.specs.Words.{max_words}
use Rattle.lent.specs.Numbers.{finite_threshold}
use Rattle.in_use.specs.InUse.{SameModel}
use Rattle.action.specs.Acts.{list_places}
use Rattle.lent.specs.Every.{Every}
use Rattle.truncate.proofs.ThresholdLaws.{finite_number}
use Rattle.passes.specs.Leaks.{words_of, sums_of, pass_size, pass_count, above}
use Rattle.leakage.specs.Leakages.{Basis, Work, Out, Leaking, work_tests, entry_tests, leak_tests, listing, leak_course, sum_places, candidate_places, leak, tested}
use Rattle.limits.specs.Defaults.{absent_tau, tau_of, is_above, limit_tests, tau_tests}
use Rattle.limits.specs.declared.Limits.{Limits}
use Rattle.leakage.proofs.GatherLaws.{leak_passed}
use Rattle.order.specs.Members.{Member}
use Rattle.leakage_laws.specs.Calls.{basis_words, basis_coeffs, room_of, stay_after, held_in, list_of, RoomForAll, listed_by, LargestStay, LargerListed, SameBasis, Looser, TauFits, TauBelowZero, LosesNobody, ReachedOutside, ListsReached}
use Rattle.leakage_laws.proofs.KeepLaws.{member_fits, member_finite, largest_more, largest_in, above_of, above_in, above_lower, ended_finite}
use Rattle.leakage_laws.proofs.CourseLaws.{Ends, course_passes, keeps_largest, held_fits}
use Rattle.leakage_laws.proofs.ReadLaws.{read_back, list_sound}
use Rattle.leakage_laws.proofs.ReachLaws.{HasRow, NoneDropped, above_has, stay_reached, stay_all, reached_stays, none_dropped}
use Rattle.leakage_laws.proofs.BelowZero.{negative_below, all_above, above_by_key}
use Rattle.leakage_laws.proofs.AlikeLaws.{list_alike}

-- ---- an accepted call
refused_lists : (q : Refusal) (n : ℕ) → ◌≡◌ {A = Result ℕ Refusal} (Err q) (Ok n) → ⊥
refused_lists q n e = let z : ◌≡◌ {A = ℕ} 0 1 = cc in omega arith

module _ (outWords : List ℕ) (outValues : List Float) (w : Work) (m : Model) (t : ModelTables) (b : Basis) (l : Limits) (n : ℕ) where
  -- the candidates left, and their list in the lent tables
  record Accepts : Type 0 where
    tests : leak_tests m t b l w ≡ Ok tt
    rows : Rows
    course : leak_course m t b l w ≡ got rows
    places : length (above (tau_of l) rows) ≤ list_places outWords outValues
    count : n ≡ length (above (tau_of l) rows)
    words_laid : (leak outWords outValues w m t b l).out.out_words ≡ laid lay_word 0 (words_of (above (tau_of l) rows)) outWords
    values_laid : (leak outWords outValues w m t b l).out.out_values ≡ laid set 0 (sums_of (above (tau_of l) rows)) outValues

  accepts : (leak outWords outValues w m t b l).out.answer ≡ Ok n → Accepts
  unfolding leak listing
  accepts e = go (leak_tests m t b l w) refl (leak_course m t b l w) refl e
    where
      go : (a : Answer) → leak_tests m t b l w ≡ a → (c : Read Rows) → leak_course m t b l w ≡ c → (tested outWords outValues w a (listing (tau_of l) outWords outValues c)).out.answer ≡ Ok n → Accepts
      go (Err q) f c g h = absurd (refused_lists q n h)
      go (Ok _) f (refused q) g h = absurd (refused_lists q n h)
      go (Ok _) f (got S) g h = lists (ltb (list_places outWords outValues) (length (above (tau_of l) S))) refl h
        where
          lists : (c : Bool) → ltb (list_places outWords outValues) (length (above (tau_of l) S)) ≡ c
              → (cond {A = Out} c (record { answer = Err (TableFull 3 (list_places outWords outValues)); out_words = outWords; out_values = outValues })
              (record { answer = Ok (length (above (tau_of l) S)); out_words = laid lay_word 0 (words_of (above (tau_of l) S)) outWords; out_values = laid set 0 (sums_of (above (tau_of l) S)) outValues })).answer ≡ Ok n
              → Accepts
          lists true x y = absurd (refused_lists _ n y)
          lists false x y =
              record {
                tests = f;
                rows = S;
                course = g;
                places = ltb-false (list_places outWords outValues) (length (above (tau_of l) S)) x;
                count = cc;
                words_laid = rw (f, g, x);
                values_laid = rw (f, g, x);
              }

  -- ---- what it lists, and its passes
  module _ (answers : (leak outWords outValues w m t b l).out.answer ≡ Ok n) where
    abbrev call : Leaking
    call = leak outWords outValues w m t b l

    -- the model passes its test
    pub leakage_model : test_model m t ≡ Ok tt
    unfolding leak_tests
    leakage_model = (both (test_model m t) _ (accepts answers).tests).0

    coeffs_long : length (basis_coeffs b) ≡ b.len
    coeffs_long = length-take-le b.len b.coeffs (leak_passed m t b l w (accepts answers).tests).coeffs_long

    pub words_each : length (basis_words b) ≡ b.len
    words_each = length-take-le b.len (words b.lanes) (omega (arith, (leak_passed m t b l w (accepts answers).tests).words_long, words_high b.lanes))

    course_is : ((accepts answers).rows ≡ stay_after m t b l (pass_count b.len)) × ((i : ℕ) → i < pass_count b.len → Ends m t b l i)
    unfolding leak_course
    course_is = course_passes m t b l (sum_places w) (candidate_places w) coeffs_long (accepts answers).rows (accepts answers).course

    -- pass k, with what stayed before it, holds finite sums, and the largest stay
    pub leakage_passes : (k : ℕ) → k < pass_count b.len → LargestStay (room_of b l) (held_in m t b l k) (stay_after m t b l (suc k))
    leakage_passes k h = keeps_largest m t b l k (course_is.1 k h)

    pub leakage_finite : (k : ℕ) → k < pass_count b.len → (i : ℕ) → i < length (held_in m t b l k) → is_finite (get_or (sums_of (held_in m t b l k)) i nan) ≡ true
    leakage_finite k h = (ended_finite (room_of b l) (held_in m t b l k) (stay_after m t b l (suc k)) (course_is.1 k h)).1

    -- the list is what stays after the last pass and is above tau_add
    pub leakage_lists : listed_by call n ≡ list_of m t b l
    leakage_lists =
        let a = accepts answers in
        let R : Rows = above (tau_of l) a.rows in
        let same : R ≡ list_of m t b l = ap (above (tau_of l)) course_is.0 in
        let sound = subst (λ (q : Rows). Every Sound (words_of q)) (sym same) (list_sound m t b l (tau_of l) (pass_count b.len)) in
        ap (listed_by call) a.count
        ∙ ap₂ (λ (ws : List ℕ) (xs : List Float). candidate_rows (length R) ws xs) a.words_laid a.values_laid
        ∙ read_back R outWords outValues sound a.places
        ∙ same

    pub leakage_count : n ≡ length (list_of m t b l)
    leakage_count = (accepts answers).count ∙ ap (λ (R : Rows). length (above (tau_of l) R)) course_is.0

    -- ---- reached words
    pub leakage_only_reached : (u : Word) → Member u (words_of (listed_by call n)) → ReachedOutside m t b u
    leakage_only_reached u h =
        stay_reached u m t b l coeffs_long (pass_count b.len) (above_has u (tau_of l) (stay_after m t b l (pass_count b.len)) (subst (HasRow u) leakage_lists h))

    stay_finite : NoneDropped m t b l → (k : ℕ) → k ≤ pass_count b.len → (i : ℕ) → i < length (stay_after m t b l k) → is_finite (get_or (sums_of (stay_after m t b l k)) i nan) ≡ true
    unfolding stay_after
    stay_finite enough zero h = λ i x. absurd (omega arith)
    stay_finite enough (suc k) h =
        subst (λ (R : Rows). (i : ℕ) → i < length R → is_finite (get_or (sums_of R) i nan) ≡ true) (sym (stay_all identity m t b l coeffs_long enough k (omega arith))) (leakage_finite k (omega arith))

    pub stayed : (k : ℕ) → k ≤ pass_count b.len → (r : Row Word Float) → Member r (stay_after m t b l k) → T (fits binary64 r.sum) × (is_finite r.sum ≡ true)
    unfolding stay_after Member
    stayed zero h r x = absurd x
    stayed (suc k) h r x =
        let R : Rows = held_in m t b l k in
        let held : Member r R = largest_in r (room_of b l) R x in
        (member_fits r R (held_fits m t b l k) held, member_finite r R (leakage_finite k (omega arith)) held)

    -- with room for all and tau_add below 0 the words listed are the reached ones
    pub leakage_reaches : RoomForAll m t b l → TauBelowZero l → ListsReached m t b (listed_by call n)
    leakage_reaches room low =
        let enough = none_dropped m t b l coeffs_long room in
        let P : ℕ = pass_count b.len in
        let all_listed : listed_by call n ≡ stay_after m t b l P = leakage_lists ∙ all_above (tau_of l) low (stay_after m t b l P) (stay_finite enough P (omega arith)) in
        record {
          every = leakage_only_reached;
          all = λ u r. subst (HasRow u) (sym all_listed) (reached_stays u m t b l coeffs_long enough r);
        }

-- ---- the threshold of an accepted call is a number
tau_tested : (m : Model) (t : ModelTables) (b : Basis) (l : Limits) (w : Work) → leak_tests m t b l w ≡ Ok tt → tau_tests b.len l ≡ Ok tt
unfolding leak_tests
tau_tested m t b l w e =
    let count : ℕ = length b.protected / word_lanes in
    let e0 = both (test_model m t) _ e in
    let e1 = counted_passed max_words b.len _ e0.1 in
    let e2 = counted_passed max_words count _ e1.1 in
    let e3 = both (limit_tests l) _ e2.1 in
    let e4 = lent_passed b.len (length b.lanes / word_lanes) _ e3.1 in
    let e5 = lent_passed b.len (length b.coeffs) _ e4.1 in
    let e6 = equal_passed (count * word_lanes) (length b.protected) _ e5.1 in
    let e7 = both (work_tests m.qubits b.len count w) _ e6.1 in
    (both (entry_tests m.qubits b) _ e7.1).1

absent_number : Number absent_tau
absent_number = record { fits_f64 = round-fits binary64 false 1 (2 ^ 40); no_nan = unfold is_nan round in tt }

tau_number : (count : ℕ) (l : Limits) → TauFits l → tau_tests count l ≡ Ok tt → Number (tau_of l)
unfolding tau_tests tau_of
tau_number count l f e = go (eqb l.tau_given 0) e
  where
    given : (a : Bool) → is_finite l.tau_add ≡ a → ◌≡◌ {A = Answer} (cond a (Ok tt) (Err (NumberOutOfRange count))) (Ok tt) → Number l.tau_add
    given true x y = record { fits_f64 = f; no_nan = finite_number l.tau_add x }
    given false x y = let z : ◌≡◌ {A = ℕ} 0 1 = cc in absurd (omega arith)

    go : (a : Bool) → ◌≡◌ {A = Answer} (cond a (Ok tt) (finite_threshold count l.tau_add (Ok tt))) (Ok tt) → Number (cond a absent_tau l.tau_add)
    go true x = absent_number
    go false x = given (is_finite l.tau_add) refl x

-- ---- tau_add is a threshold: what is listed is larger than what stayed in the last pass and is not
module _ (m : Model) (t : ModelTables) (b : Basis) (l : Limits) (fit : TauFits l) (outWords : List ℕ) (outValues : List Float) (w : Work) (n : ℕ) (answers : (leak outWords outValues w m t b l).out.answer ≡ Ok n) where
  pub leakage_larger : LargerListed (stay_after m t b l (pass_count b.len)) (listed_by (leak outWords outValues w m t b l) n)
  leakage_larger r s x y not_listed = go (lt tau float0) refl
    where
      tau : Float
      tau = tau_of l

      P : ℕ
      P = pass_count b.len

      number : Number tau
      number = tau_number b.len l fit (tau_tested m t b l w (accepts outWords outValues w m t b l n answers).tests)

      lists : listed_by (leak outWords outValues w m t b l) n ≡ above tau (stay_after m t b l P)
      lists = leakage_lists outWords outValues w m t b l n answers

      over : Member r (stay_after m t b l P) × (is_above tau r.sum ≡ true)
      over = above_of r tau (stay_after m t b l P) (subst (Member r) lists x)

      not_over : is_above tau s.sum ≡ true → ⊥
      not_over e = not_listed (subst (Member s) (sym lists) (above_in s tau (stay_after m t b l P) y e))

      r_is : T (fits binary64 r.sum) × (is_finite r.sum ≡ true)
      r_is = stayed outWords outValues w m t b l n answers P (omega arith) r over.0

      s_is : T (fits binary64 s.sum) × (is_finite s.sum ≡ true)
      s_is = stayed outWords outValues w m t b l n answers P (omega arith) s y

      go : (c : Bool) → lt tau float0 ≡ c → key binary64 s.sum < key binary64 r.sum
      go true e = absurd (not_over (negative_below tau e s.sum s_is.1))
      go false e =
          let high = ltb-true (key binary64 tau) (key binary64 r.sum) (sym (above_by_key tau number e r.sum r_is.0 r_is.1) ∙ over.1) in
          let low = not_above (ltb (key binary64 tau) (key binary64 s.sum)) refl (λ z. not_over (above_by_key tau number e s.sum s_is.0 s_is.1 ∙ z)) in
          omega (arith, high, low)
        where
          not_above : (c : Bool) → ltb (key binary64 tau) (key binary64 s.sum) ≡ c → (c ≡ true → ⊥) → key binary64 s.sum ≤ key binary64 tau
          not_above true z h = absurd (h refl)
          not_above false z h = ltb-false (key binary64 tau) (key binary64 s.sum) z

-- ---- of two accepted calls over at most 4,096 words, alike but for looser limits and whatever places each was lent, the second
-- lists every word that the first lists, with the same value
module _ (m : Model) (t : ModelTables) (b : Basis) (l l' : Limits) (looser : Looser l l') where
  listed_stays : (k : ℕ) → k ≤ 1 → (k ≡ 1 → Ends m t b l 0) → Number (tau_of l) → Number (tau_of l') → LosesNobody (above (tau_of l) (stay_after m t b l k)) (above (tau_of l') (stay_after m t b l' k))
  unfolding stay_after above Member
  listed_stays zero h e n n' r x = absurd x
  listed_stays (suc (suc k)) h e n n' r x = absurd (omega arith)
  listed_stays (suc zero) h e n n' r x =
      let R : Rows = held_in m t b l 0 in
      let kept = above_of r (tau_of l) (stay_after m t b l 1) x in
      let given : Member r R = largest_in r (room_of b l) R kept.0 in
      above_in r (tau_of l') (stay_after m t b l' 1)
      (largest_more r (room_of b l) (room_of b l') R (omega (arith, looser.raised)) kept.0)
      (above_lower (tau_of l) (tau_of l') r.sum n n' looser.lowered (member_fits r R (held_fits m t b l 0) given) (member_finite r R (ended_finite (room_of b l) R (stay_after m t b l 1) (e refl)).1 given) kept.1)

module _ (m : Model) (t t' : ModelTables) (same : SameModel m t t') (b b' : Basis) (alike : SameBasis b b') (few : b.len ≤ pass_size) (l l' : Limits) (looser : Looser l l') (fit : TauFits l) (fit' : TauFits l') where
  pub leakage_loses_nobody : (outWords : List ℕ) (outValues : List Float) (w : Work) (n : ℕ) → (leak outWords outValues w m t b l).out.answer ≡ Ok n
      → (outWords' : List ℕ) (outValues' : List Float) (w' : Work) (n' : ℕ) → (leak outWords' outValues' w' m t' b' l').out.answer ≡ Ok n'
      → LosesNobody (listed_by (leak outWords outValues w m t b l) n) (listed_by (leak outWords' outValues' w' m t' b' l') n')
  leakage_loses_nobody outWords outValues w n e outWords' outValues' w' n' e' r x =
      let P : ℕ = pass_count b.len in
      let a = accepts outWords outValues w m t b l n e in
      let a' = accepts outWords' outValues' w' m t' b' l' n' e' in
      let others : list_of m t b l' ≡ listed_by (leak outWords' outValues' w' m t' b' l') n' =
      list_alike m t t' same (leakage_model outWords outValues w m t b l n e) b b' alike l' ∙ sym (leakage_lists outWords' outValues' w' m t' b' l' n' e') in
      subst (Member r) others
      (listed_stays m t b l l' looser P (omega (arith, few)) (λ z. (course_is outWords outValues w m t b l n e).1 0 (omega (arith, z))) (tau_number b.len l fit (tau_tested m t b l w a.tests)) (tau_number b'.len l' fit' (tau_tested m t' b' l' w' a'.tests)) r
      (subst (Member r) (leakage_lists outWords outValues w m t b l n e) x))
