-- SPDX-FileCopyrightText: 2026 The PPVM Authors
-- SPDX-License-Identifier: Apache-2.0

-- In work tables of the lengths that `step_sizes` names, no work table decides what a step tests, and there is room for the words, the words touched,
-- the candidates and the entries that the lengths were named for. Both hold for a basis and a protected list that are shorter, too: the
-- lengths are named for what a basis may grow to. Assumes nothing.
use Prim.Native.Nat.{ℕ, zero, suc, ◌+◌, ◌-◌, ◌*◌, ◌/◌, ◌≤◌, min, max}
use mathlib.Core.Path.{◌≡◌, refl}
use mathlib.Core.List.{List}
use native.Mathlib.Nat.{le_refl, le_trans, le-min}
use native.Mathlib.Omega.{arith}
use borrow.Author.Tests.{le-ltb}
use lib.Ieee.{Float}
use lib.ListN.{length}
use Rattle.std.specs.Prelude.{Ok, Err}
use Rattle.refusal.specs.Cause.{Answer}
use Rattle.word.specs.Flat.{word_lanes}
use Rattle.word.specs.Word.{max_qubits}
use Rattle.model.specs.Stored.{ModelTables}
use Rattle.model.specs.declared.stored.Model.{Model}
use Rattle.model.proofs.StandsLaws.{tested_stands}
use Rattle.lent.specs.Tests.{where_any, and_then}
use Rattle.lent.specs.Words.{max_words}
use Rattle.lent.proofs.NeedLaws.{need_is, need_mono}
use Rattle.limits.specs.declared.Limits.{Limits}
use Rattle.action.specs.Counts.{row_lanes}
use Rattle.step_parts.specs.Lent.{Work, touched_places, row_places, grown_places, entry_places, places_of, given_tests, work_tests, step_tests}
use Rattle.step_parts.proofs.CheckLaws.{given_passed}
use Rattle.step.specs.Exports.{max_places, step_sizes}
use Rattle.step.specs.declared.sizes.StepSizes.{StepSizes}

-- ---- lengths
former : (x y : ℕ) {n : ℕ} → max x y ≤ n → x ≤ n
former x y h = omega arith

latter : (x y : ℕ) {n : ℕ} → max x y ≤ n → y ≤ n
latter x y h = omega arith

twice : (x : ℕ) → x ≤ 2 * x
twice x = omega arith

quarter : (k t : ℕ) {n : ℕ} → k ≤ t → word_lanes * t ≤ n → k ≤ n / word_lanes
quarter k t h m = omega arith

half : (k t : ℕ) {n : ℕ} → k ≤ t → 2 * t ≤ n → k ≤ n / 2
half k t h m = omega arith

-- a register has no more qubits than there may be
rows : (qubits : ℕ) → qubits ≤ max_qubits → row_lanes * qubits ≤ row_lanes * min qubits max_qubits
rows qubits q = omega arith

-- the slots of so many basis words and protected ones, in tables for more of either
slots_asked : (k count words protected : ℕ) → k ≤ words → k ≤ max_words → count ≤ protected → count ≤ max_words → where_any k (k + count) ≤ min words max_words + min (where_any words protected) max_words
unfolding where_any
slots_asked zero count words protected h i j l = omega arith
slots_asked (suc k) count words protected h i j l = rw (need_is words protected (omega (arith, h))) (omega (arith, h, i, j, l))

slots_left : (k count : ℕ) {n : ℕ} → where_any k (k + count) ≤ n → k ≤ n - count
unfolding where_any
slots_left zero count h = omega arith
slots_left (suc k) count h = omega arith

-- where rows start, one place more than there are rows
starts_asked : (k n : ℕ) → k ≤ n → where_any k (suc k) ≤ where_any n (n + 1)
starts_asked k n h = need_mono k n (n + 1) (suc k) h (omega arith)

starts_left : (k : ℕ) {n : ℕ} → where_any k (suc k) ≤ n → k ≤ n - 1
unfolding where_any
starts_left zero h = omega arith
starts_left (suc k) h = omega arith

-- ---- tables of at least these lengths
pub record StepLent (s : StepSizes) (w : Work) : Type 0 where
  pub h_index : s.h_index ≤ length w.h_index
  pub j_index : s.j_index ≤ length w.j_index
  pub mask : s.mask ≤ length w.mask
  pub work_words : s.work_words ≤ length w.work_words
  pub work_sums : s.work_sums ≤ length w.work_sums
  pub order : s.order ≤ length w.order
  pub heads : s.heads ≤ length w.heads
  pub nexts : s.nexts ≤ length w.nexts
  pub cand_words : s.cand_words ≤ length w.cand_words
  pub cand_sums : s.cand_sums ≤ length w.cand_sums
  pub place_order : s.place_order ≤ length w.place_order
  pub place_work : s.place_work ≤ length w.place_work
  pub list_words : s.list_words ≤ length w.list_words
  pub list_values : s.list_values ≤ length w.list_values
  pub stage_rows : s.stage_rows ≤ length w.stage_rows
  pub stage_columns : s.stage_columns ≤ length w.stage_columns
  pub columns : s.columns ≤ length w.columns
  pub values : s.values ≤ length w.values
  pub grown_words : s.grown_words ≤ length w.grown_words
  pub start : s.start ≤ length w.start
  pub evolved : s.evolved ≤ length w.evolved

module _ (qubits words protected touched candidates entries : ℕ) (w : Work) (a : StepLent (step_sizes qubits words protected touched candidates entries) w) where
  abbrev n : ℕ
  n = min words max_words

  abbrev p : ℕ
  p = min (where_any words protected) max_words

  abbrev t : ℕ
  t = min touched max_places

  abbrev c : ℕ
  c = min candidates max_places

  abbrev e : ℕ
  e = min entries max_places

  -- ---- a basis of k words beside count protected ones
  module _ (k count : ℕ) (k-few : k ≤ words) (k-most : k ≤ max_words) (count-few : count ≤ protected) (count_most : count ≤ max_words) where
    record Enough : Type 0 where
      order : k ≤ length w.order
      heads : where_any k (k + count) ≤ length w.heads
      nexts : where_any k (k + count) ≤ length w.nexts
      place_order : where_any k (suc k) ≤ length w.place_order
      cand_sums : k ≤ length w.cand_sums
      list_values : k ≤ length w.list_values
      work_sums : k ≤ length w.work_sums
      grown_words : k ≤ length w.grown_words / word_lanes
      start : k ≤ length w.start
      evolved : k ≤ length w.evolved

    enough : Enough
    unfolding step_sizes
    enough =
        let h : k ≤ n = le-min k-few k-most in
        let s = slots_asked k count words protected k-few k-most count-few count_most in
        record {
          order = le_trans h a.order;
          heads = le_trans s (le_trans (twice (n + p)) a.heads);
          nexts = le_trans s a.nexts;
          place_order = le_trans (starts_asked k n h) (latter (2 * c) (where_any n (n + 1)) a.place_order);
          cand_sums = le_trans h (latter (max c e) n a.cand_sums);
          list_values = le_trans h a.list_values;
          work_sums = le_trans h (latter (2 * t) n a.work_sums);
          grown_words = quarter k n h a.grown_words;
          start = le_trans h a.start;
          evolved = le_trans h a.evolved;
        }

    -- no work table is refused
    pub work_accepted : qubits ≤ max_qubits
        → work_tests qubits k count (length w.h_index) (length w.j_index) (length w.mask) (length w.order) (length w.heads) (length w.nexts) (length w.place_order) (length w.cand_sums) (length w.list_values) (length w.work_sums) (length w.grown_words) (length w.start) (length w.evolved) ≡ Ok tt
    unfolding step_sizes work_tests
    work_accepted q =
        let f = enough in
        let r : where_any k (row_lanes * qubits) ≤ where_any words (row_lanes * min qubits max_qubits) = need_mono k words (row_lanes * min qubits max_qubits) (row_lanes * qubits) k-few (rows qubits q) in
        rw (
          le-ltb (length w.h_index) (where_any k (row_lanes * qubits)) (le_trans r a.h_index),
          le-ltb (length w.j_index) (where_any k (row_lanes * qubits)) (le_trans r a.j_index),
          le-ltb (length w.mask) (where_any k row_lanes) (le_trans (need_mono k words row_lanes row_lanes k-few (omega arith)) a.mask),
          le-ltb (length w.order) k f.order,
          le-ltb (length w.heads) (where_any k (k + count)) f.heads,
          le-ltb (length w.nexts) (where_any k (k + count)) f.nexts,
          le-ltb (length w.place_order) (where_any k (suc k)) f.place_order,
          le-ltb (length w.cand_sums) k f.cand_sums,
          le-ltb (length w.list_values) k f.list_values,
          le-ltb (length w.work_sums) k f.work_sums,
          le-ltb (length w.grown_words / word_lanes) k f.grown_words,
          le-ltb (length w.start) k f.start,
          le-ltb (length w.evolved) k f.evolved,
        )

  -- ---- room, beside a basis and a protected list
  module _ (lanes : List ℕ) (coeffs : List Float) (list : List ℕ) where
    pub touched_room : touched ≤ max_places → touched ≤ (places_of lanes coeffs list w).touched
    unfolding step_sizes touched_places
    touched_room h =
        let k : touched ≤ t = le-min (le_refl touched) h in
        le-min (quarter touched t k a.work_words) (half touched t k (former (2 * t) n a.work_sums))

    pub candidates_room : candidates ≤ max_places → candidates ≤ (places_of lanes coeffs list w).candidates
    unfolding step_sizes row_places
    candidates_room h =
        let k : candidates ≤ c = le-min (le_refl candidates) h in
        le-min (le-min (quarter candidates c k a.cand_words) (le_trans k (former c e (former (max c e) n a.cand_sums)))) (le-min (le_trans k (le_trans (twice c) (former (2 * c) (where_any n (n + 1)) a.place_order))) (le_trans k a.place_work))

    pub entries_room : entries ≤ max_places → entries ≤ (places_of lanes coeffs list w).entries
    unfolding step_sizes entry_places
    entries_room h =
        let k : entries ≤ e = le-min (le_refl entries) h in
        le-min (le-min (le-min (le_trans k a.stage_rows) (le_trans k a.stage_columns)) (le_trans k (latter c e (former (max c e) n a.cand_sums)))) (le-min (le_trans k a.columns) (le_trans k a.values))

    -- of leaked words
    pub listed_room : (k : ℕ) → k ≤ words → k ≤ max_words → k ≤ (places_of lanes coeffs list w).listed
    unfolding step_sizes
    listed_room k few most =
        let h : k ≤ n = le-min few most in
        le-min (quarter k n h a.list_words) (le_trans h a.list_values)

    -- of the basis, where the lent basis has as many places
    pub basis_room : (k : ℕ) → k ≤ words → k ≤ max_words → length list / word_lanes ≤ protected → length list / word_lanes ≤ max_words
        → k ≤ length lanes / word_lanes → k ≤ length coeffs → k ≤ (places_of lanes coeffs list w).basis
    unfolding grown_places
    basis_room k few most count-few count_most lanes-long coeffs-long =
        let f = enough k (length list / word_lanes) few most count-few count_most in
        le-min (le-min (le-min lanes-long coeffs-long) (le-min (le-min f.grown_words f.start) f.evolved))
        (le-min (le-min (le-min f.order (slots_left k (length list / word_lanes) f.heads)) (le-min (slots_left k (length list / word_lanes) f.nexts) (starts_left k f.place_order))) (le-min (le-min f.cand_sums f.list_values) f.work_sums))

-- ---- the tests of a step
-- what comes after a test need agree only where the test is passed
then_alike : (a : Answer) {b c : Answer} → (a ≡ Ok tt → b ≡ c) → and_then a b ≡ and_then a c
then_alike (Ok _) h = h refl
then_alike (Err r) h = refl

module _ (m : Model) (t : ModelTables) (lanes : List ℕ) (coeffs : List Float) (len : ℕ) (protected : List ℕ) (l : Limits) (dt dropTol : Float) where
  abbrev tests : Work → Answer
  tests w = step_tests m t lanes coeffs len protected l dt dropTol (length w.h_index) (length w.j_index) (length w.mask) (length w.order) (length w.heads) (length w.nexts) (length w.place_order) (length w.cand_sums) (length w.list_values) (length w.work_sums) (length w.grown_words) (length w.start) (length w.evolved)

  -- of any two such lendings they end alike
  pub step_enough : (words count touched candidates entries : ℕ) (w w' : Work) → len ≤ words → length protected / word_lanes ≤ count
      → StepLent (step_sizes m.qubits words count touched candidates entries) w → StepLent (step_sizes m.qubits words count touched candidates entries) w'
      → tests w ≡ tests w'
  unfolding step_tests
  step_enough words count touched candidates entries w w' few count-few x y =
      then_alike (given_tests m t lanes coeffs len protected l) (λ e.
      let g = given_passed m t lanes coeffs len protected l e in
      let q = (tested_stands m t g.model).qubits in
      rw (work_accepted m.qubits words count touched candidates entries w x len (length protected / word_lanes) few g.few count-few g.protected_few q, work_accepted m.qubits words count touched candidates entries w' y len (length protected / word_lanes) few g.few count-few g.protected_few q))
