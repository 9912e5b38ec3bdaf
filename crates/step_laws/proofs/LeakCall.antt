-- SPDX-FileCopyrightText: 2026 The PPVM Authors
-- SPDX-License-Identifier: Apache-2.0

-- The leakage of a step is that of the call: over lent tables that have their places, a basis that passes is accepted, and what is listed
-- are the words and sums that plain lists give. Assumes nothing.
use Rattle.std.specs.Prelude.{Result}
use mathlib.Core.Path.{◌≡◌, refl, sym, ap, subst, ◌∙◌}
use mathlib.Core.Bool.{Bool, true, false, cond}
use mathlib.Core.List.{List, [], ◌∷◌}
use Prim.Native.Nat.{ℕ, zero, suc, ◌+◌, ◌-◌, ◌*◌, ◌/◌, ◌≤◌}
use native.Mathlib.Omega.{arith}
use borrow.Author.Tests.{le-ltb, eq-eqb, ltb-false}
use lib.Dec.{ltb}
use lib.Ieee.{Float}
use lib.ListN.{length, take, drop, set, length-set}
use Rattle.refusal.specs.declared.Refusal.{Refusal}
use Rattle.refusal.specs.declared.Refusal.TheVariants.{TableFull}
use Rattle.std.specs.Prelude.{Ok, Err}
use Rattle.word.specs.Flat.{words, lay_word, word_lanes}
use Rattle.word.specs.declared.word.Word.{Word}
use Rattle.word.proofs.FlatLaws.{words_high}
use Rattle.lent.specs.Laid.{laid}
use Rattle.lent.specs.Read.{Read, got, refused, refuse_if}
use Rattle.lent.specs.Words.{max_words}
use Rattle.lent.proofs.LaidLaws.{laid_length}
use Rattle.model.specs.Stored.{ModelTables}
use Rattle.model.specs.Tested.{test_model}
use Rattle.model.specs.declared.stored.Model.{Model}
use Rattle.model_laws.proofs.LaidLaws.{word_length}
use Rattle.action.specs.Acts.{list_places}
use Rattle.action.specs.Counts.{row_lanes}
use Rattle.candidates.specs.Tables.{Rows, rows, candidate_rows, put_rows}
use Rattle.limits.specs.Defaults.{limit_of, tau_of, limit_tests, tau_tests}
use Rattle.limits.specs.declared.Limits.{Limits}
use Rattle.passes.specs.Leaks.{taken_by, ended, pass_size, pass_count, passes, candidates_of, above, words_of, sums_of}
use Rattle.passes.proofs.RoomLaws.{ended_count}
use Rattle.passes.proofs.TableLaws.{table_sums}
use Rattle.leakage.specs.Leakages.{Basis, basis_of, Work, Out, Leaking, sum_places, candidate_places, zeroed, work_tests, entry_tests, leak_tests, listing, leak_course, leak}
use Rattle.leakage_laws.specs.Calls.{stay_after}
use Rattle.leakage_laws.proofs.CourseLaws.{course_passes}
use Rattle.leakage_laws.proofs.CallLaws.{leakage_lists}
use Rattle.step_laws.specs.Steps.{Places, leakage}
use Rattle.step_laws.specs.Passing.{Fit, Held, GoodProtected, LeakPlaces, LeakCall}
use Rattle.step_laws.proofs.CourseLaws.{no_value, same_value, same_refused, through}
use Rattle.step_laws.proofs.AdmissionLaws.{not_refused, above_few}
use Rattle.step_laws.proofs.HeldLaws.{held_words, held_numbers, inside_passes, finite_passes, protected_passes, need_none}

-- ---- never more candidates than places
not_over : {A : Type 0} (places count : ℕ) (q : Refusal) (after : Read A) (a : A) → refuse_if (ltb places count) q after ≡ got a → count ≤ places
not_over places count q after a e = go (ltb places count) refl e
  where
    go : (b : Bool) → ltb places count ≡ b → refuse_if b q after ≡ got a → count ≤ places
    go true t f = absurd (no_value q a f)
    go false t f = ltb-false places count t

module _ (touched : ℕ → ℕ) (leaks : ℕ → Rows) (sumRoom candidateRoom : ℕ) where
  taken_lent : (ps : List ℕ) (T S : Rows) → length T ≤ candidateRoom → taken_by touched leaks sumRoom candidateRoom ps T ≡ got S → length S ≤ candidateRoom
  unfolding taken_by
  taken_lent [] T S h e = omega (arith, h, ap length (same_value T S e))
  taken_lent (p ∷ ps) T S h e =
      let f = not_refused (ltb sumRoom (touched p)) (TableFull 1 sumRoom) _ S e in
      taken_lent ps (put_rows (leaks p) T) S (not_over candidateRoom (length (put_rows (leaks p) T)) (TableFull 2 candidateRoom) _ S f)
      (not_refused (ltb candidateRoom (length (put_rows (leaks p) T))) (TableFull 2 candidateRoom) _ S f)

  passes_lent : (room k : ℕ) (ps : List ℕ) (T S : Rows) → length T ≤ candidateRoom → passes touched leaks sumRoom candidateRoom room k ps T ≡ got S → length S ≤ candidateRoom
  unfolding passes
  passes_lent room zero ps T S h e = omega (arith, h, ap length (same_value T S e))
  passes_lent room (suc k) ps T S h e =
      let a = through (taken_by touched leaks sumRoom candidateRoom (take pass_size ps) T) _ S e in
      let b = through (ended room a.value) (passes touched leaks sumRoom candidateRoom room k (drop pass_size ps)) S a.behind in
      passes_lent room k (drop pass_size ps) b.value S (omega (arith, taken_lent (take pass_size ps) T a.value h a.before, ended_count room a.value b.value b.before)) b.behind

-- ---- the words of a list in lent tables
table_words : (n : ℕ) (ws : List Word) (xs : List Float) → n ≤ length ws → n ≤ length xs → words_of (take n (rows ws xs)) ≡ take n ws
unfolding rows
table_words zero ws xs h l = refl
table_words (suc n) [] xs h l = absurd (omega arith)
table_words (suc n) (w ∷ ws) [] h l = absurd (omega arith)
table_words (suc n) (w ∷ ws) (x ∷ xs) h l = ap (λ (t : List Word). w ∷ t) (table_words n ws xs (omega arith) (omega arith))

-- ---- answers
pub no_list : (q : Refusal) (k : ℕ) → ◌≡◌ {A = Result ℕ Refusal} (Err q) (Ok k) → ⊥
no_list q k e = let z : ◌≡◌ {A = ℕ} 0 1 = cc in omega arith

pub same_count : (j k : ℕ) → ◌≡◌ {A = Result ℕ Refusal} (Ok j) (Ok k) → j ≡ k
same_count j k e = cc

pub same_answer : (q r : Refusal) → ◌≡◌ {A = Result ℕ Refusal} (Err q) (Err r) → q ≡ r
same_answer q r e = cc

-- ---- the tests
module _ (m : Model) (t : ModelTables) (ok : test_model m t ≡ Ok tt) (lanes : List ℕ) (coeffs : List Float) (len : ℕ) (ws : List Word) (cs : List Float) (h : Held lanes coeffs len ws cs)
    (fit : Fit m.qubits ws cs) (protected : List ℕ) (good : GoodProtected m.qubits protected)
    (l : Limits) (limits-ok : limit_tests l ≡ Ok tt) (tau-ok : tau_tests len l ≡ Ok tt) (w : Work) (lent : LeakPlaces m.qubits len (length protected / word_lanes) w) where
  abbrev b : Basis
  b = basis_of lanes coeffs len protected

  tables_ok : work_tests m.qubits len (length protected / word_lanes) w ≡ Ok tt
  unfolding work_tests
  tables_ok =
      rw (
        le-ltb (length w.h_index) _ (need_none len (row_lanes * m.qubits) (length w.h_index) lent.h_long),
        le-ltb (length w.j_index) _ (need_none len (row_lanes * m.qubits) (length w.j_index) lent.j_long),
        le-ltb (length w.mask) _ (need_none len row_lanes (length w.mask) lent.mask_long),
        le-ltb (length w.order) len lent.order_long,
        le-ltb (length w.heads) _ (need_none len (len + length protected / word_lanes) (length w.heads) lent.heads_long),
        le-ltb (length w.nexts) _ (need_none len (len + length protected / word_lanes) (length w.nexts) lent.nexts_long),
      )

  entries_ok : entry_tests m.qubits b ≡ Ok tt
  unfolding entry_tests
  entries_ok =
      inside_passes lanes coeffs len ws cs h m.qubits _ fit.inside ∙ protected_passes m.qubits protected _ good ∙ finite_passes lanes coeffs len ws cs h 0 (Ok tt) fit.finite

  pub leak_accepted : leak_tests m t b l w ≡ Ok tt
  unfolding leak_tests
  leak_accepted =
      rw (
        ok,
        le-ltb max_words len (omega (arith, fit.few, held_words lanes coeffs len ws cs h)),
        le-ltb max_words (length protected / word_lanes) good.few,
        limits-ok,
        le-ltb (length lanes / word_lanes) len (omega (arith, h.lanes_long)),
        le-ltb (length coeffs) len h.numbers_long,
        eq-eqb (length protected) (length protected / word_lanes * word_lanes) good.whole,
        tables_ok,
        entries_ok,
      ) tau-ok

  -- ---- the call
  module _ (outWords : List ℕ) (outValues : List Float) (dt : Float) (places : Places) (touched : places.touched ≡ sum_places w) (candidates : places.candidates ≡ candidate_places w) (listed : places.listed ≡ list_places outWords outValues) where
    abbrev after : Leaking
    after = leak outWords outValues w m t b l

    abbrev plain : Read Rows
    plain = leakage m t (words protected) dt places (limit_of l) (tau_of l) ws cs

    abbrev course : Read Rows
    course = candidates_of m t ws cs (words protected) places.touched places.candidates (limit_of l - length ws)

    course_is : leak_course m t b l w ≡ course
    unfolding leak_course
    course_is = rw (h.words_are, h.numbers_are, touched, candidates, held_words lanes coeffs len ws cs h)

    after_is : (c : Read Rows) → course ≡ c → after ≡ record { out = listing (tau_of l) outWords outValues c; work = zeroed w }
    unfolding leak
    after_is c e = rw (leak_accepted, course_is, e)

    -- 13 or 14
    call_stops : (q : Refusal) → plain ≡ refused q → after ≡ record { out = record { answer = Err q; out_words = outWords; out_values = outValues }; work = zeroed w } → LeakCall w outWords outValues after plain
    call_stops q p a =
        let answer : after.out.answer ≡ Err q = ap (λ (x : Leaking). x.out.answer) a in
        record {
          work_zero = ap (λ (x : Leaking). x.work) a;
          words_long = ap (λ (x : Leaking). length x.out.out_words) a;
          values_long = ap (λ (x : Leaking). length x.out.out_values) a;
          listed = λ R f. absurd (no_value q R (sym p ∙ f));
          turned = λ r f. (answer ∙ ap Err (same_refused q r (sym p ∙ f)), ap (λ (x : Leaking). x.out.out_words) a, ap (λ (x : Leaking). x.out.out_values) a);
          by_listed = λ k f. absurd (no_list q k (sym answer ∙ f));
          by_refusal = λ r f. p ∙ ap refused (same_answer q r (sym answer ∙ f));
        }

    module _ (T : Rows) (e : course ≡ got T) where
      abbrev R : Rows
      R = above (tau_of l) T

      plain_is : (c : Bool) → ltb (list_places outWords outValues) (length R) ≡ c → plain ≡ refuse_if c (TableFull 3 (list_places outWords outValues)) (got R)
      unfolding leakage
      plain_is c f = rw (e, listed, f)

      lists_is : (c : Bool) → ltb (list_places outWords outValues) (length R) ≡ c
          → after
          ≡ record {
            out = cond {A = Out} c (record { answer = Err (TableFull 3 (list_places outWords outValues)); out_words = outWords; out_values = outValues })
                (record { answer = Ok (length R); out_words = laid lay_word 0 (words_of R) outWords; out_values = laid set 0 (sums_of R) outValues });
            work = zeroed w;
          }
      unfolding listing
      lists_is c f = after_is (got T) e ∙ rw f

      module _ (f : ltb (list_places outWords outValues) (length R) ≡ false) where
        fits : length R ≤ list_places outWords outValues
        fits = ltb-false (list_places outWords outValues) (length R) f

        answer : after.out.answer ≡ Ok (length R)
        answer = ap (λ (x : Leaking). x.out.answer) (lists_is false f)

        words_same : length after.out.out_words ≡ length outWords
        words_same = ap (λ (x : Leaking). length x.out.out_words) (lists_is false f) ∙ laid_length lay_word word_length 0 (words_of R) outWords

        values_same : length after.out.out_values ≡ length outValues
        values_same = ap (λ (x : Leaking). length x.out.out_values) (lists_is false f) ∙ laid_length set length-set 0 (sums_of R) outValues

        -- the list is read back from the tables
        read : candidate_rows (length R) after.out.out_words after.out.out_values ≡ R
        unfolding leak_course
        read =
            let long : length (take len coeffs) ≡ len = ap length h.numbers_are ∙ held_numbers lanes coeffs len ws cs h in
            let stays : T ≡ stay_after m t b l (pass_count len) = (course_passes m t b l (sum_places w) (candidate_places w) long T (course_is ∙ e)).0 in
            leakage_lists outWords outValues w m t b l (length R) answer ∙ ap (above (tau_of l)) (sym stays)

        holds : Held after.out.out_words after.out.out_values (length R) (words_of R) (sums_of R)
        holds =
            let lw : word_lanes * length R ≤ length after.out.out_words = omega (arith, words_same, fits) in
            let lv : length R ≤ length after.out.out_values = omega (arith, values_same, fits) in
            record {
              lanes_long = lw;
              numbers_long = lv;
              words_are = sym (table_words (length R) (words after.out.out_words) after.out.out_values (omega (arith, lw, words_high after.out.out_words)) lv) ∙ ap words_of read;
              numbers_are = sym (table_sums (length R) after.out.out_words after.out.out_values lw lv) ∙ ap sums_of read;
            }

        few_rows : length R ≤ candidate_places w
        unfolding candidates_of
        few_rows = omega (arith, above_few (tau_of l) T, passes_lent _ _ places.touched places.candidates (limit_of l - length ws) _ _ [] T (omega arith) e, candidates)

        call_lists : LeakCall w outWords outValues after plain
        call_lists =
            let p : plain ≡ got R = plain_is false f in
            record {
              work_zero = ap (λ (x : Leaking). x.work) (lists_is false f);
              words_long = words_same;
              values_long = values_same;
              listed = λ S g. subst (λ (q : Rows). (after.out.answer ≡ Ok (length q)) × Held after.out.out_words after.out.out_values (length q) (words_of q) (sums_of q) × (length q ≤ candidate_places w)) (same_value R S (sym p ∙ g)) (answer, holds, few_rows);
              turned = λ q g. absurd (no_value q R (sym g ∙ p));
              by_listed = λ k g. (R, (p, same_count k (length R) (sym g ∙ answer)));
              by_refusal = λ q g. absurd (no_list q (length R) (sym g ∙ answer));
            }

    pub leak_call : LeakCall w outWords outValues after plain
    unfolding leakage listing
    leak_call = go course refl
      where
        go : (c : Read Rows) → course ≡ c → LeakCall w outWords outValues after plain
        go (refused q) e = call_stops q (rw e) (after_is (refused q) e)
        go (got T) e = either (ltb (list_places outWords outValues) (length (above (tau_of l) T))) refl
          where
            either : (c : Bool) → ltb (list_places outWords outValues) (length (above (tau_of l) T)) ≡ c → LeakCall w outWords outValues after plain
            either true f = call_stops (TableFull 3 (list_places outWords outValues)) (plain_is T e true f) (lists_is T e true f)
            either false f = call_lists T e f
