-- SPDX-FileCopyrightText: 2026 The PPVM Authors
-- SPDX-License-Identifier: Apache-2.0

-- A hop is that of plain lists: the words that leak from a basis that passes are listed and enter it, and every other table is left zero.
-- Assumes nothing.
use Rattle.refusal.specs.Cause.{Answer}
use mathlib.Core.Path.{◌≡◌, refl, sym, ap, ap₂, subst, ◌∙◌}
use mathlib.Core.Bool.{Bool, true, false, cond}
use mathlib.Core.List.{List, [], ◌++◌}
use Prim.Native.Nat.{ℕ, ◌+◌, ◌*◌, ◌/◌, ◌≤◌, ◌<◌, max}
use native.Mathlib.Omega.{arith}
use native.Mathlib.Decide.{dec_lt}
use lib.Dec.{eqb}
use lib.Ieee.{Float}
use lib.ListN.{length, take, drop, replicate, length-replicate}
use lib.Seq.{take-take, take-append-le, length-take-le}
use Rattle.refusal.specs.declared.Refusal.{Refusal}
use Rattle.std.specs.Prelude.{Result, Ok, Err}
use Rattle.word.specs.Flat.{words, word_lanes}
use Rattle.word.specs.declared.word.Word.{Word}
use Rattle.word.proofs.FlatLaws.{words_take}
use Rattle.number.specs.Floats.{float0}
use Rattle.lent.specs.Read.{Read, got, refused, onward}
use Rattle.lent.specs.Tests.{counted}
use Rattle.lent.specs.Words.{max_words}
use Rattle.lent.proofs.Passed.{counted_passed}
use Rattle.limits.specs.Defaults.{limit_of, tau_of, limit_tests}
use Rattle.limits.specs.declared.Limits.{Limits}
use Rattle.model.specs.Stored.{ModelTables}
use Rattle.model.specs.declared.stored.Model.{Model}
use Rattle.model.proofs.StandsLaws.{tested_stands}
use Rattle.candidates.specs.Tables.{Rows}
use Rattle.passes.specs.Leaks.{words_of, sums_of}
use Rattle.action.specs.Acts.{list_places}
use Rattle.leakage.specs.Leakages.{Work, Leaking, basis_of, action_places, row_places, sum_places, candidate_places, leak}
use Rattle.truncate.specs.Admissions.{Admitting, admit}
use Rattle.step_laws.specs.Steps.{Places, leakage, admitted, hop}
use Rattle.step_laws.specs.Passing.{AreFinite, Fit, GoodWords, Held, LeakPlaces, LeakCall, AdmitCall}
use Rattle.step_laws.proofs.CourseLaws.{same_value}
use Rattle.step_laws.proofs.EmptyLaws.{hop_none}
use Rattle.step_laws.proofs.HeldLaws.{held_words, held_numbers}
use Rattle.step_laws.proofs.GrownLaws.{list_fit, hop_good, zeros_behind, zeros_good}
use Rattle.step_laws.proofs.AdmitCall.{no_entries, same_answer, admit_call}
use Rattle.step_laws.proofs.LeakCall.{leak_call}
use Rattle.step_parts.specs.Lent.{touched_places, row_places as candidate_rows}
use Rattle.step_parts.specs.Between.{Given, HopLong, Holds, HopPlaces, Entered, Hops, shared, none}
use Rattle.step_legs.specs.Between.{Admitted, Enters}

-- ---- a limit that passes its tests
limit_low : (l : Limits) → limit_tests l ≡ Ok tt → limit_of l ≤ max_words
unfolding limit_tests limit_of
limit_low l e =
    let a = counted_passed max_words l.max_basis _ e in
    go (eqb l.admit_given 0) a.0 a.1
  where
    go : (b : Bool) → l.max_basis ≤ max_words → ◌≡◌ {A = Answer} (cond b (Ok tt) (counted max_words l.admit_basis (Ok tt))) (Ok tt) → cond b l.max_basis (max l.max_basis l.admit_basis) ≤ max_words
    go true h f = h
    go false h f = omega (arith, h, (counted_passed max_words l.admit_basis (Ok tt) f).0)

-- ---- the words of a table that another follows
front_words : (k : ℕ) (part rest : List ℕ) → word_lanes * k ≤ length part → take k (words (part ++ rest)) ≡ take k (words part)
front_words k part rest h = sym (words_take k (part ++ rest)) ∙ ap words (take-append-le (word_lanes * k) part rest h) ∙ words_take k part

-- ---- the leakage of a basis that passes
module _ (m : Model) (t : ModelTables) (protected : List ℕ) (l : Limits) (given : Given m t protected l) (places len : ℕ) (lanes : List ℕ) (start numbers : List Float) (w : Work) (listWords : List ℕ) (listValues : List Float)
    (long : HopLong m.qubits (length protected / word_lanes) places len w.h_index w.j_index w.mask w.order w.heads w.nexts lanes start numbers)
    (holds : Holds m.qubits places len lanes start numbers) (x : Leaking) (leaks : x ≡ leak listWords listValues w m t (basis_of lanes numbers len protected) l) where
  abbrev ws : List Word
  ws = take len (words lanes)

  abbrev cs : List Float
  cs = take len numbers

  held : Held lanes numbers len ws cs
  held = record { lanes_long = omega (arith, long.grown_long, holds.inside); numbers_long = omega (arith, long.evolved_long, holds.inside); words_are = refl; numbers_are = refl }

  fit : Fit m.qubits ws cs
  fit = record {
    few = holds.good.few;
    inside = holds.good.inside;
    each = held_numbers lanes numbers len ws cs held ∙ sym (held_words lanes numbers len ws cs held);
    finite = holds.evolved_finite;
  }

  lent : LeakPlaces m.qubits len (length protected / word_lanes) w
  lent = record {
    h_long = long.h_rows;
    j_long = long.j_rows;
    mask_long = long.row;
    order_long = omega (arith, long.order_long, holds.inside);
    heads_long = λ a. omega (arith, long.heads_long a, holds.inside);
    nexts_long = λ a. omega (arith, long.nexts_long a, holds.inside);
  }

  leaking : (p : Places) (dt : Float) → p.touched ≡ sum_places w → p.candidates ≡ candidate_places w → p.listed ≡ list_places listWords listValues
      → LeakCall w listWords listValues x (leakage m t (words protected) dt p (limit_of l) (tau_of l) ws cs)
  leaking p dt touched candidates listed =
      subst (λ (y : Leaking). LeakCall w listWords listValues y (leakage m t (words protected) dt p (limit_of l) (tau_of l) ws cs)) (sym leaks)
      (leak_call m t given.model lanes numbers len ws cs held fit protected given.good l given.limits (given.tau len) w lent listWords listValues dt p touched candidates listed)

  -- the places that are there
  abbrev own : Places
  own = record { touched = sum_places w; candidates = candidate_places w; listed = list_places listWords listValues; basis = places; entries = 0 }

  leaks_own : LeakCall w listWords listValues x (leakage m t (words protected) float0 own (limit_of l) (tau_of l) ws cs)
  leaks_own = leaking own float0 refl refl refl

  -- the list stands in its tables
  pub list_stands : (k : ℕ) → x.out.answer ≡ Ok k → (word_lanes * k ≤ length x.out.out_words) × (k ≤ length x.out.out_values)
  list_stands k e =
      let b = leaks_own.by_listed k e in
      let h = (leaks_own.listed b.0 b.1.0).1 in
      (omega (arith, b.1.1, h.lanes_long), omega (arith, b.1.1, h.numbers_long))

  -- ---- the basis in the tables that admission gets
  abbrev grown_lanes : List ℕ
  grown_lanes = take (places * word_lanes) lanes

  abbrev grown_start : List Float
  grown_start = take places start

  abbrev firsts : List Float
  firsts = take len start

  lanes_places : length grown_lanes ≡ places * word_lanes
  lanes_places = length-take-le (places * word_lanes) lanes (omega (arith, long.grown_long))

  start_places : length grown_start ≡ places
  start_places = length-take-le places start long.start_long

  start_held : Held grown_lanes grown_start len ws firsts
  start_held =
      let e : places * word_lanes ≡ word_lanes * places = omega arith in
      record {
        lanes_long = omega (arith, lanes_places, holds.inside);
        numbers_long = omega (arith, start_places, holds.inside);
        words_are = ap (λ (j : ℕ). take len (words (take j lanes))) e ∙ ap (take len) (words_take places lanes) ∙ take-take len places (words lanes) holds.inside;
        numbers_are = take-take len places start holds.inside;
      }

  start_fit : Fit m.qubits ws firsts
  start_fit = record {
    few = holds.good.few;
    inside = holds.good.inside;
    each = held_numbers grown_lanes grown_start len ws firsts start_held ∙ sym (held_words grown_lanes grown_start len ws firsts start_held);
    finite = holds.start_finite;
  }

  -- ---- what the call of admission left, over such places
  module _ (p : Places) (dt : Float) (is : p.basis ≡ places) (call : LeakCall w listWords listValues x (leakage m t (words protected) dt p (limit_of l) (tau_of l) ws cs)) where
    abbrev entering : Rows → Read (List Word)
    entering = admitted m t (words protected) dt p (limit_of l) ws

    abbrev hopped : Read (List Word)
    hopped = hop m t (words protected) dt p (limit_of l) (tau_of l) ws cs

    -- no word enters an empty basis
    any : (us : List Word) → hopped ≡ got us → 0 < len + length us → 0 < len
    any us e h = go (dec_lt 0 len)
      where
        go : Dec (0 < len) → 0 < len
        go (yes i) = i
        go (no i) =
            let z : len ≡ 0 = omega arith in
            let s : hopped ≡ got [] = ap (λ (j : ℕ). hop m t (words protected) dt p (limit_of l) (tau_of l) (take j (words lanes)) (take j numbers)) z ∙ hop_none m t (words protected) dt p (limit_of l) (tau_of l) in
            omega (arith, h, ap length (same_value us [] (sym e ∙ s)))

    module _ (k : ℕ) (e : x.out.answer ≡ Ok k) where
      abbrev R : Rows
      R = (call.by_listed k e).0

      listed : leakage m t (words protected) dt p (limit_of l) (tau_of l) ws cs ≡ got R
      listed = (call.by_listed k e).1.0

      list_held : Held x.out.out_words x.out.out_values k (words_of R) (sums_of R)
      list_held = subst (λ (j : ℕ). Held x.out.out_words x.out.out_values j (words_of R) (sums_of R)) (sym (call.by_listed k e).1.1) (call.listed R listed).1

      abbrev after : Admitting
      after = admit len grown_lanes grown_start (take (k * word_lanes) x.out.out_words) (take k x.out.out_values) x.work.place_order x.work.place_work x.work.cand_words m.qubits (limit_of l)

      few : k ≤ candidate_places w
      few = omega (arith, (call.by_listed k e).1.1, (call.listed R listed).2)

      admits : AdmitCall grown_lanes grown_start len ws firsts x.work.place_order x.work.place_work x.work.cand_words after (entering R)
      unfolding row_places
      admits =
          let low = limit_low l given.limits in
          let lo : length x.work.place_order ≡ length w.place_order = ap (λ (y : Work). length y.place_order) call.work_zero ∙ length-replicate (length w.place_order) 0 in
          let lw : length x.work.place_work ≡ length w.place_work = ap (λ (y : Work). length y.place_work) call.work_zero ∙ length-replicate (length w.place_work) 0 in
          let lc : length x.work.cand_words ≡ length w.cand_words = ap (λ (y : Work). length y.cand_words) call.work_zero ∙ length-replicate (length w.cand_words) 0 in
          admit_call m.qubits grown_lanes grown_start len ws firsts start_held x.out.out_words x.out.out_values k R list_held x.work.place_order x.work.place_work x.work.cand_words (limit_of l)
          (tested_stands m t given.model).qubits start_fit (list_fit m t given.model (words protected) dt p (limit_of l) (tau_of l) ws cs holds.good.inside low R listed) low (omega (arith, few, lo)) (omega (arith, few, lw)) (omega (arith, few, lc))
          m t (words protected) dt p (is ∙ omega (arith, lanes_places, start_places))

      hop_leads : hopped ≡ entering R
      hop_leads = ap (λ (r : Read Rows). onward r entering) listed

      module _ (r : Result ℕ Refusal) (candWords' placeOrder' placeWork' lanes' : List ℕ) (start' : List Float) (a : Admitted after places lanes start r candWords' placeOrder' placeWork' lanes' start') where
        enters : (j : ℕ) → r ≡ Ok j → Entered hopped m.qubits places len j lanes start lanes' start'
        enters j f =
            let b = admits.by_entries j (sym a.answers ∙ f) in
            let us : List Word = b.0 in
            let n : j ≡ len + length us = b.1.1 in
            let i : hopped ≡ got us = hop_leads ∙ b.1.0 in
            let h = (admits.entered us b.1.0).1 in
            let words_are : take j (words lanes') ≡ ws ++ us = ap₂ (λ (c : ℕ) (v : List ℕ). take c (words v)) n a.words_are ∙ front_words (len + length us) after.lanes (drop (places * word_lanes) lanes) h.lanes_long ∙ h.words_are in
            let start_is : take j start' ≡ firsts ++ replicate (length us) float0 = ap₂ (λ (c : ℕ) (v : List Float). take c v) n a.start_is ∙ take-append-le (len + length us) after.coeffs (drop places start) h.numbers_long ∙ h.numbers_are in
            let zeros = zeros_behind ws us firsts start_fit.each in
            let good = hop_good m t given.model (words protected) dt p (limit_of l) (tau_of l) ws cs holds.good.inside (limit_low l given.limits) holds.good us i in
            record {
              entered = us;
              is = i;
              count = n;
              words_are = words_are;
              start_is = start_is ∙ sym zeros;
              good = subst (GoodWords m.qubits) (sym words_are) good;
              start_finite = subst AreFinite (zeros ∙ sym start_is) (zeros_good m.qubits ws us firsts start_fit good).fit.finite;
              inside = omega (arith, n, h.lanes_long, admits.lanes_long, lanes_places);
              any = λ z. any us i (omega (arith, n, z));
            }

        stops : (q : Refusal) → r ≡ Err q → hopped ≡ refused q
        stops q f = hop_leads ∙ admits.by_refusal q (sym a.answers ∙ f)

  -- ---- what entering answered and left
  module _ (limit : ℕ) (limit_is : limit ≡ limit_of l) (r : Result ℕ Refusal) (candWords' placeOrder' placeWork' lanes' : List ℕ) (start' : List Float)
      (left : Enters x.out.answer m.qubits limit places len x.work.cand_words x.work.place_order x.work.place_work x.out.out_words x.out.out_values lanes start r candWords' placeOrder' placeWork' lanes' start') where
    entering_is : Enters x.out.answer m.qubits (limit_of l) places len x.work.cand_words x.work.place_order x.work.place_work x.out.out_words x.out.out_values lanes start r candWords' placeOrder' placeWork' lanes' start'
    entering_is =
        subst (λ (i : ℕ). Enters x.out.answer m.qubits i places len x.work.cand_words x.work.place_order x.work.place_work x.out.out_words x.out.out_values lanes start r candWords' placeOrder' placeWork' lanes' start') limit_is left

    hops : (p : Places) (dt : Float) → HopPlaces p places w.work_words w.work_sums w.cand_words w.cand_sums w.place_order w.place_work listWords listValues
        → Hops (hop m t (words protected) dt p (limit_of l) (tau_of l) ws cs) m.qubits places len lanes start r lanes' start'
    unfolding touched_places action_places candidate_rows row_places
    hops p dt at = go x.out.answer refl
      where
        call : LeakCall w listWords listValues x (leakage m t (words protected) dt p (limit_of l) (tau_of l) ws cs)
        call = leaking p dt at.touched at.candidates at.listed

        go : (a : Result ℕ Refusal) → x.out.answer ≡ a → Hops (hop m t (words protected) dt p (limit_of l) (tau_of l) ws cs) m.qubits places len lanes start r lanes' start'
        go (Ok k) e =
            let a = entering_is.listed k e in
            record { enters = enters p dt at.basis call k e r candWords' placeOrder' placeWork' lanes' start' a; stops = stops p dt at.basis call k e r candWords' placeOrder' placeWork' lanes' start' a }
        go (Err q) e =
            let s = entering_is.refused q e in
            record {
              enters = λ j f. absurd (no_entries q j (sym s.answers ∙ f));
              stops = λ u f. ap (λ (y : Read Rows). onward y (admitted m t (words protected) dt p (limit_of l) ws)) (call.by_refusal q e) ∙ ap refused (same_answer q u (sym s.answers ∙ f));
            }

    -- the three tables that leakage and admission share
    record Cleared : Type 0 where
      cand : candWords' ≡ replicate (length w.cand_words) 0
      order : placeOrder' ≡ replicate (length w.place_order) 0
      work : placeWork' ≡ replicate (length w.place_work) 0

    cleared : Cleared
    cleared = go x.out.answer refl
      where
        zero : (k : ℕ) (y : List ℕ) → y ≡ replicate k 0 → replicate {A = ℕ} (length y) 0 ≡ replicate k 0
        zero k y e = ap (λ (j : ℕ). replicate {A = ℕ} j 0) (ap length e ∙ length-replicate {A = ℕ} k 0)

        go : (a : Result ℕ Refusal) → x.out.answer ≡ a → Cleared
        go (Ok k) e =
            let a = entering_is.listed k e in
            let c = admits own float0 refl leaks_own k e in
            record {
              cand = a.kept_is ∙ c.kept_zero ∙ zero (length w.cand_words) x.work.cand_words (ap (λ (y : Work). y.cand_words) leaks_own.work_zero);
              order = a.order_is ∙ c.order_zero ∙ zero (length w.place_order) x.work.place_order (ap (λ (y : Work). y.place_order) leaks_own.work_zero);
              work = a.work_is ∙ c.work_zero ∙ zero (length w.place_work) x.work.place_work (ap (λ (y : Work). y.place_work) leaks_own.work_zero);
            }
        go (Err q) e =
            let s = entering_is.refused q e in
            record {
              cand = s.cand_same ∙ ap (λ (y : Work). y.cand_words) leaks_own.work_zero;
              order = s.order_same ∙ ap (λ (y : Work). y.place_order) leaks_own.work_zero;
              work = s.work_same ∙ ap (λ (y : Work). y.place_work) leaks_own.work_zero;
            }

    pub hop_is : (listWords' : List ℕ) (listValues' : List Float) → listWords' ≡ replicate (length x.out.out_words) 0 → listValues' ≡ replicate (length x.out.out_values) float0
        → ((p : Places) (dt : Float) → HopPlaces p places w.work_words w.work_sums w.cand_words w.cand_sums w.place_order w.place_work listWords listValues
        → Hops (hop m t (words protected) dt p (limit_of l) (tau_of l) ws cs) m.qubits places len lanes start r lanes' start')
        × (shared x.work.h_index x.work.j_index x.work.mask x.work.work_words x.work.work_sums x.work.order x.work.heads x.work.nexts candWords' x.work.cand_sums placeOrder' placeWork' listWords' listValues'
        ≡ none (shared w.h_index w.j_index w.mask w.work_words w.work_sums w.order w.heads w.nexts w.cand_words w.cand_sums w.place_order w.place_work listWords listValues))
    hop_is listWords' listValues' ew ev = (
      hops,
      rw (cleared.cand, cleared.order, cleared.work, ew, ev, leaks_own.words_long, leaks_own.values_long)
          (ap (λ (y : Work). shared y.h_index y.j_index y.mask y.work_words y.work_sums y.order y.heads y.nexts (replicate (length w.cand_words) 0) y.cand_sums (replicate (length w.place_order) 0) (replicate (length w.place_work) 0) (replicate (length listWords) 0) (replicate (length listValues) float0)) leaks_own.work_zero),
    )
