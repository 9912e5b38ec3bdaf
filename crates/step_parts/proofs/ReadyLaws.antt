-- SPDX-FileCopyrightText: 2026 The PPVM Authors
-- SPDX-License-Identifier: Apache-2.0

-- What passed the tests of a step is what its parts ask for, over a grown basis of as many places as its tables have; and what one part leaves is
-- what the next asks for. Assumes nothing.
use mathlib.Core.Path.{◌≡◌, refl, sym, ap, subst, ◌∙◌}
use mathlib.Core.Bool.{Bool, true, false, cond}
use mathlib.Core.List.{List}
use Prim.Native.Nat.{ℕ, ◌-◌, ◌*◌, ◌/◌, ◌≤◌, ◌<◌, min}
use native.Mathlib.Omega.{arith}
use lib.Dec.{eqb}
use lib.Ieee.{Float, nan}
use lib.ListN.{length, take}
use lib.Seq.{get_or-take, length-take-le}
use Rattle.refusal.specs.declared.Refusal.TheVariants.{NumberOutOfRange}
use Rattle.std.specs.Prelude.{Ok, Err}
use Rattle.refusal.specs.Cause.{Answer}
use Rattle.word.specs.Word.{identity}
use Rattle.word.specs.Flat.{words, word_lanes}
use Rattle.word.specs.Register.{reaches}
use Rattle.word.specs.declared.word.Word.{Word}
use Rattle.word.proofs.FlatLaws.{words_high}
use Rattle.number.specs.Floats.{is_finite}
use Rattle.model.specs.Stored.{ModelTables}
use Rattle.model.specs.declared.stored.Model.{Model}
use Rattle.model.proofs.StandsLaws.{tested_stands}
use Rattle.lent.specs.Words.{max_words, outside_at}
use Rattle.lent.proofs.Passed.{both, refused_not, counted_passed}
use Rattle.limits.specs.Defaults.{limit_tests, tau_tests}
use Rattle.limits.specs.declared.Limits.{Limits}
use Rattle.generator.specs.Lent.{distinct, basis_of}
use Rattle.step_laws.specs.Steps.{Places}
use Rattle.step_laws.specs.Passing.{AreFinite, GoodWords}
use Rattle.step_laws.proofs.HeldLaws.{passes_apart}
use Rattle.step_parts.specs.Lent.{Work, grown_places, given_tests, work_tests, number_tests, step_tests}
use Rattle.step_parts.specs.Between.{Given, FiniteStep, Long, SameLong, Holds, PlacesOf, EndReady}
use Rattle.step_parts.proofs.CheckLaws.{where_any_lem, GivenPassed, given_passed, WorkPassed, work_passed, NumbersPassed, numbers_passed}

-- ---- limits
-- a threshold passes behind any number of coefficients
tau_any : (l : Limits) (len count : ℕ) → tau_tests len l ≡ Ok tt → tau_tests count l ≡ Ok tt
unfolding tau_tests
tau_any l len count e = go (eqb l.tau_given 0) (is_finite l.tau_add) e
  where
    go : (a b : Bool) → ◌≡◌ {A = Answer} (cond a (Ok tt) (cond b (Ok tt) (Err (NumberOutOfRange len)))) (Ok tt) → ◌≡◌ {A = Answer} (cond a (Ok tt) (cond b (Ok tt) (Err (NumberOutOfRange count)))) (Ok tt)
    go true b f = refl
    go false true f = refl
    go false false f = absurd (refused_not (NumberOutOfRange len) f)

limit_few : (l : Limits) → limit_tests l ≡ Ok tt → l.max_basis ≤ max_words
unfolding limit_tests
limit_few l e = (counted_passed max_words l.max_basis _ e).0

-- ---- all tests
module _ (m : Model) (t : ModelTables) (lanes : List ℕ) (coeffs : List Float) (len : ℕ) (protected : List ℕ) (l : Limits) (dt dropTol : Float) (hIndex jIndex mask order heads nexts placeOrder candSums listValues workSums grownWords start evolved : ℕ) where
  pub record StepPassed : Type 0 where
    pub given : GivenPassed m t lanes coeffs len protected l
    pub work : WorkPassed m.qubits len (length protected / word_lanes) hIndex jIndex mask order heads nexts placeOrder candSums listValues workSums grownWords start evolved
    pub numbers : NumbersPassed m.qubits lanes coeffs len protected l dt dropTol
    pub apart : distinct (basis_of lanes len) ≡ Ok tt

  pub step_passed : step_tests m t lanes coeffs len protected l dt dropTol hIndex jIndex mask order heads nexts placeOrder candSums listValues workSums grownWords start evolved ≡ Ok tt → StepPassed
  unfolding step_tests
  step_passed e =
      let given : Answer = given_tests m t lanes coeffs len protected l in
      let tables : Answer = work_tests m.qubits len (length protected / word_lanes) hIndex jIndex mask order heads nexts placeOrder candSums listValues workSums grownWords start evolved in
      let numbers : Answer = number_tests m.qubits lanes coeffs len protected l dt dropTol in
      let a = both given _ e in
      let b = both tables _ a.1 in
      let d = both numbers _ b.1 in
      record {
        given = given_passed m t lanes coeffs len protected l a.0;
        work = work_passed m.qubits len (length protected / word_lanes) hIndex jIndex mask order heads nexts placeOrder candSums listValues workSums grownWords start evolved b.0;
        numbers = numbers_passed m.qubits lanes coeffs len protected l dt dropTol d.0;
        apart = d.1;
      }

  -- the given basis, and the tables for its copy, are long enough
  pub copy_ready : step_tests m t lanes coeffs len protected l dt dropTol hIndex jIndex mask order heads nexts placeOrder candSums listValues workSums grownWords start evolved ≡ Ok tt
      → (word_lanes * len ≤ length lanes) × (len ≤ length coeffs) × (word_lanes * len ≤ grownWords) × (len ≤ start) × (len ≤ evolved)
  copy_ready e =
      let p = step_passed e in
      (p.given.words_long, p.given.coeffs_long, p.work.grown_long, p.work.start_long, p.work.evolved_long)

-- ---- what is given
module _ (m : Model) (t : ModelTables) (lanes : List ℕ) (coeffs : List Float) (len : ℕ) (protected : List ℕ) (l : Limits) (dt dropTol : Float)
    (g : GivenPassed m t lanes coeffs len protected l) (s : NumbersPassed m.qubits lanes coeffs len protected l dt dropTol) where
  pub ready_given : Given m t protected l
  ready_given = record { model = g.model; good = record { whole = g.whole; few = g.protected_few; inside = s.protected_inside }; limits = g.limits; tau = λ count. tau_any l len count s.tau }

  pub ready_step : FiniteStep dt dropTol
  ready_step = record { dt_finite = s.dt_finite; drop_finite = s.drop_finite }

  words_long : length (take len (words lanes)) ≡ len
  words_long = length-take-le len (words lanes) (omega (arith, g.words_long, words_high lanes))

  -- the words are the given ones: apart from 12 all is tested
  given_good : distinct (basis_of lanes len) ≡ Ok tt → GoodWords m.qubits (take len (words lanes))
  unfolding outside_at
  given_good e = record {
    few = omega (arith, words_long, g.few);
    inside = λ k h.
        let z : k < len = omega (arith, h, words_long) in
        ap (λ (w : Word). reaches w m.qubits) (get_or-take len (words lanes) k identity z) ∙ s.inside k z;
    apart = passes_apart (take len (words lanes)) e;
  }

  given_finite : AreFinite (take len coeffs)
  given_finite i h =
      let z : i < len = omega (arith, h, length-take-le len coeffs g.coeffs_long) in
      ap is_finite (get_or-take len coeffs i nan z) ∙ s.finite i z

  -- a copy of the given basis
  pub ready_holds : distinct (basis_of lanes len) ≡ Ok tt → (places : ℕ) → len ≤ places → (grownWords : List ℕ) (start evolved : List Float)
      → take len (words grownWords) ≡ take len (words lanes) → take len start ≡ take len coeffs → take len evolved ≡ take len coeffs → Holds m.qubits places len grownWords start evolved
  ready_holds e places h grownWords start evolved ew es ee = record {
    good = subst (GoodWords m.qubits) (sym ew) (given_good e);
    start_finite = subst AreFinite (sym es) given_finite;
    evolved_finite = subst AreFinite (sym ee) given_finite;
    inside = h;
  }

-- ---- places of the grown basis
split : (a b k : ℕ) → k ≤ min a b → (k ≤ a) × (k ≤ b)
split a b k h = (omega arith, omega arith)

lower : (a b : ℕ) → (min a b ≤ a) × (min a b ≤ b)
lower a b = (omega arith, omega arith)

least : (a b k : ℕ) → k ≤ a → k ≤ b → k ≤ min a b
least a b k h i = omega arith

module _ (lanes coeffs grownWords start evolved order heads nexts placeOrder candSums listValues workSums count : ℕ) where
  abbrev places : ℕ
  places = grown_places lanes coeffs grownWords start evolved order heads nexts placeOrder candSums listValues workSums count

  -- no more than any table has
  pub record Within : Type 0 where
    pub lanes_within : word_lanes * places ≤ lanes
    pub coeffs_within : places ≤ coeffs
    pub grown_within : word_lanes * places ≤ grownWords
    pub start_within : places ≤ start
    pub evolved_within : places ≤ evolved
    pub order_within : places ≤ order
    pub heads_within : places ≤ heads - count
    pub nexts_within : places ≤ nexts - count
    pub starts_within : places ≤ placeOrder - 1
    pub cand_within : places ≤ candSums
    pub list_within : places ≤ listValues
    pub sums_within : places ≤ workSums

  pub within : Within
  unfolding grown_places
  within =
      let k : ℕ = places in
      let e0 =
      lower (min (min (lanes / word_lanes) coeffs) (min (min (grownWords / word_lanes) start) evolved)) (min (min (min order (heads - count)) (min (nexts - count) (placeOrder - 1))) (min (min candSums listValues) workSums)) in
      let e1 = split (min (lanes / word_lanes) coeffs) (min (min (grownWords / word_lanes) start) evolved) k e0.0 in
      let e2 = split (min (min order (heads - count)) (min (nexts - count) (placeOrder - 1))) (min (min candSums listValues) workSums) k e0.1 in
      let e3 = split (lanes / word_lanes) coeffs k e1.0 in
      let e4 = split (min (grownWords / word_lanes) start) evolved k e1.1 in
      let e5 = split (grownWords / word_lanes) start k e4.0 in
      let e6 = split (min order (heads - count)) (min (nexts - count) (placeOrder - 1)) k e2.0 in
      let e7 = split order (heads - count) k e6.0 in
      let e8 = split (nexts - count) (placeOrder - 1) k e6.1 in
      let e9 = split (min candSums listValues) workSums k e2.1 in
      let e10 = split candSums listValues k e9.0 in
      record {
        lanes_within = omega (arith, e3.0);
        coeffs_within = e3.1;
        grown_within = omega (arith, e5.0);
        start_within = e5.1;
        evolved_within = e4.1;
        order_within = e7.0;
        heads_within = e7.1;
        nexts_within = e8.0;
        starts_within = e8.1;
        cand_within = e10.0;
        list_within = e10.1;
        sums_within = e9.1;
      }

  -- and a place for each word given
  module _ (n len hIndex jIndex mask : ℕ) (words_long : word_lanes * len ≤ lanes) (coeffs-long : len ≤ coeffs) (w : WorkPassed n len count hIndex jIndex mask order heads nexts placeOrder candSums listValues workSums grownWords start evolved) where
    any_within : 0 < len → len ≤ places
    unfolding grown_places
    any_within any =
        least _ _ len
        (least _ _ len (least _ _ len (omega (arith, words_long)) coeffs-long) (least _ _ len (least _ _ len (omega (arith, w.grown_long)) w.start_long) w.evolved_long))
        (least _ _ len (least _ _ len (least _ _ len w.order_long (omega (arith, w.heads_long any))) (least _ _ len (omega (arith, w.nexts_long any)) (omega (arith, w.starts_long any)))) (least _ _ len (least _ _ len w.cand_long w.list_long) w.sums_long))

    pub given_within : len ≤ places
    given_within = where_any_lem len places any_within

-- ---- tables that are long enough
module _ (n len count lanes coeffs : ℕ) (w : Work) (p : WorkPassed n len count (length w.h_index) (length w.j_index) (length w.mask) (length w.order) (length w.heads) (length w.nexts) (length w.place_order) (length w.cand_sums) (length w.list_values) (length w.work_sums) (length w.grown_words) (length w.start) (length w.evolved)) where
  abbrev grown_to : ℕ
  grown_to = grown_places lanes coeffs (length w.grown_words) (length w.start) (length w.evolved) (length w.order) (length w.heads) (length w.nexts) (length w.place_order) (length w.cand_sums) (length w.list_values) (length w.work_sums) count

  pub ready_long : Long n count grown_to len w
  ready_long =
      let i = within lanes coeffs (length w.grown_words) (length w.start) (length w.evolved) (length w.order) (length w.heads) (length w.nexts) (length w.place_order) (length w.cand_sums) (length w.list_values) (length w.work_sums) count in
      record {
        hop = record {
          h_rows = p.h_long;
          j_rows = p.j_long;
          row = p.mask_long;
          order_long = i.order_within;
          heads_long = λ any. omega (arith, i.heads_within, p.heads_long any);
          nexts_long = λ any. omega (arith, i.nexts_within, p.nexts_long any);
          grown_long = i.grown_within;
          start_long = i.start_within;
          evolved_long = i.evolved_within;
        };
        evolve = record {
          h_rows = p.h_long;
          j_rows = p.j_long;
          row = p.mask_long;
          heads_long = omega (arith, i.heads_within);
          nexts_long = omega (arith, i.nexts_within);
          starts_long = λ any. omega (arith, i.starts_within, p.starts_long any);
          grown_long = i.grown_within;
          cand_long = i.cand_within;
          list_long = i.list_within;
          sums_long = i.sums_within;
          start_long = i.start_within;
          evolved_long = i.evolved_within;
        };
      }

-- ---- tables of the same lengths
module _ {w w' : Work} (s : SameLong w w') where
  -- for another basis, without words where the first is
  pub long_same : {n count places len : ℕ} → Long n count places len w → (k : ℕ) → (0 < k → 0 < len) → Long n count places k w'
  long_same h k some = record {
    hop = record {
      h_rows = λ any. rw s.h_index (h.hop.h_rows (some any));
      j_rows = λ any. rw s.j_index (h.hop.j_rows (some any));
      row = λ any. rw s.mask (h.hop.row (some any));
      order_long = rw s.order h.hop.order_long;
      heads_long = λ any. rw s.heads (h.hop.heads_long (some any));
      nexts_long = λ any. rw s.nexts (h.hop.nexts_long (some any));
      grown_long = rw s.grown_words h.hop.grown_long;
      start_long = rw s.start h.hop.start_long;
      evolved_long = rw s.evolved h.hop.evolved_long;
    };
    evolve = record {
      h_rows = λ any. rw s.h_index (h.evolve.h_rows (some any));
      j_rows = λ any. rw s.j_index (h.evolve.j_rows (some any));
      row = λ any. rw s.mask (h.evolve.row (some any));
      heads_long = rw s.heads h.evolve.heads_long;
      nexts_long = rw s.nexts h.evolve.nexts_long;
      starts_long = λ any. rw s.place_order (h.evolve.starts_long (some any));
      grown_long = rw s.grown_words h.evolve.grown_long;
      cand_long = rw s.cand_sums h.evolve.cand_long;
      list_long = rw s.list_values h.evolve.list_long;
      sums_long = rw s.work_sums h.evolve.sums_long;
      start_long = rw s.start h.evolve.start_long;
      evolved_long = rw s.evolved h.evolve.evolved_long;
    };
  }

  pub places_same : {p : Places} {places : ℕ} → PlacesOf p places w → PlacesOf p places w'
  places_same h = record {
    hop = record {
      touched = rw (s.work_words, s.work_sums) h.hop.touched;
      candidates = rw (s.cand_words, s.cand_sums, s.place_order, s.place_work) h.hop.candidates;
      listed = rw (s.list_words, s.list_values) h.hop.listed;
      basis = h.hop.basis;
    };
    evolve = record {
      touched = rw (s.work_words, s.work_sums) h.evolve.touched;
      entries = rw (s.stage_rows, s.stage_columns, s.cand_sums, s.columns, s.values) h.evolve.entries;
    };
  }

pub same_twice : {w w' w'' : Work} → SameLong w w' → SameLong w' w'' → SameLong w w''
same_twice s t = record {
  h_index = t.h_index ∙ s.h_index;
  j_index = t.j_index ∙ s.j_index;
  mask = t.mask ∙ s.mask;
  work_words = t.work_words ∙ s.work_words;
  work_sums = t.work_sums ∙ s.work_sums;
  order = t.order ∙ s.order;
  heads = t.heads ∙ s.heads;
  nexts = t.nexts ∙ s.nexts;
  cand_words = t.cand_words ∙ s.cand_words;
  cand_sums = t.cand_sums ∙ s.cand_sums;
  place_order = t.place_order ∙ s.place_order;
  place_work = t.place_work ∙ s.place_work;
  list_words = t.list_words ∙ s.list_words;
  list_values = t.list_values ∙ s.list_values;
  stage_rows = t.stage_rows ∙ s.stage_rows;
  stage_columns = t.stage_columns ∙ s.stage_columns;
  columns = t.columns ∙ s.columns;
  values = t.values ∙ s.values;
  grown_words = t.grown_words ∙ s.grown_words;
  start = t.start ∙ s.start;
  evolved = t.evolved ∙ s.evolved;
}

-- ---- the end of a course that left k words
pub ready_end : {m : Model} {t : ModelTables} {protected : List ℕ} {l : Limits} {dt dropTol : Float} {places k : ℕ} {w : Work} → Given m t protected l → FiniteStep dt dropTol
    → Long m.qubits (length protected / word_lanes) places k w → Holds m.qubits places k w.grown_words w.start w.evolved
    → EndReady m.qubits protected dropTol l.max_basis k w.grown_words w.evolved w.order w.heads w.nexts w.place_order
ready_end {m} {t} {protected} {l} {dt} {dropTol} {places} {k} {w} g s long h =
    let i : k ≤ places = h.inside in
    let words_are : length (take k (words w.grown_words)) ≡ k = length-take-le k (words w.grown_words) (omega (arith, i, long.hop.grown_long, words_high w.grown_words)) in
    let numbers-are : length (take k w.evolved) ≡ k = length-take-le k w.evolved (omega (arith, i, long.hop.evolved_long)) in
    record {
      register = (tested_stands m t g.model).qubits;
      good = g.good;
      limit_few = limit_few l g.limits;
      drop_finite = s.drop_finite;
      fit = record { few = h.good.few; inside = h.good.inside; each = numbers-are ∙ sym words_are; finite = h.evolved_finite };
      grown_long = omega (arith, i, long.hop.grown_long);
      evolved_long = omega (arith, i, long.hop.evolved_long);
      order_long = omega (arith, i, long.hop.order_long);
      heads_long = λ any. omega (arith, i, long.hop.heads_long any);
      nexts_long = λ any. omega (arith, i, long.hop.nexts_long any);
      places_long = where_any_lem k (length w.place_order) (λ any. omega (arith, i, long.evolve.starts_long any));
    }
