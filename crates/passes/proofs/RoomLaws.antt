-- SPDX-FileCopyrightText: 2026 The PPVM Authors
-- SPDX-License-Identifier: Apache-2.0

-- The room rule: how many candidates stay, with room for all and for none; and a pass's end. Assumes nothing.
use mathlib.Core.Path.{◌≡◌, refl, ap, sym, ◌∙◌}
use mathlib.Core.Bool.{Bool, true, false, not, ◌&&◌, ◌||◌, cond, true≢false}
use mathlib.Core.List.{List, [], ◌∷◌, ◌++◌, map}
use Prim.Native.Nat.{ℕ, zero, suc, ◌+◌, ◌*◌, ◌≤◌, ◌<◌, min}
use native.Mathlib.Omega.{arith}
use native.Mathlib.Decide.{dec_lt}
use borrow.Author.Tests.{lt-ltb, le-ltb, ltb-true, not-false, not-true}
use lib.Dec.{eqb, ltb}
use lib.Dec as D
use lib.Ieee.{Float, nan, fits, binary64}
use lib.ListN.{length, get_or, take, drop, replicate, length-append, length-drop, length-map, length-replicate, get_or-replicate, get_or-map}
use lib.Seq.{take_all, take_at, length-take-le, get_or-take}
use Rattle.refusal.specs.declared.Refusal.TheVariants.{SumNotFinite}
use Rattle.word.specs.Flat.{word_lanes, words}
use Rattle.word.specs.Order.{before}
use Rattle.word.specs.declared.word.Word.{Word}
use Rattle.word.proofs.FlatLaws.{words_take, words_count}
use Rattle.number.specs.Floats.{floats, magnitude, is_finite}
use Rattle.order.specs.Magnitudes.{by_magnitude, key_at}
use Rattle.order.specs.Between.{AreFinite, AllFinite}
use Rattle.order.proofs.MagnitudeLaws.{size_lt}
use Rattle.keep.specs.Retained.{pick, flagged}
use Rattle.keep.specs.Chosen.{flag_of, chosen}
use Rattle.keep.specs.Largest.{stays_flag, KeepsTo}
use Rattle.keep.specs.Between.{EachOnce}
use Rattle.keep.proofs.ChosenLaws.{walked_length, chosen_unfixed}
use Rattle.keep.proofs.FlagLaws.{flagged_few, flagged_none}
use Rattle.keep.proofs.LargestLaws.{chosen_by_last}
use Rattle.keep.proofs.PickLaws.{pick_length}
use Rattle.slots.specs.Between.{Slotted}
use Rattle.candidates.specs.Sums.{Row, AllAfter, Rising, put_all}
use Rattle.candidates.specs.Tables.{Rows, rows, candidate_rows}
use Rattle.candidates.specs.Between.{in_word_order, those, row_at, goes_ahead, stays_beside, Standing, CutTo, BadPlace}
use Rattle.candidates.proofs.PutLaws.{strict, asym}
use Rattle.candidates.proofs.RisingLaws.{order_rising}
use Rattle.candidates.proofs.RowLaws.{no_row, rows_at, rows_few, table_long, table_at}
use Rattle.candidates.proofs.ThoseLaws.{those_order, those_count, rising_at}
use Rattle.candidates.proofs.BadLaws.{FirstBad, first_bad}
use Rattle.candidates.proofs.WordOrderLaws.{Each, each_by, each_at, each_all, all_each}
use Rattle.lent.specs.Read.{got, refused, refuse_if}
use Rattle.lent.specs.Tests.{first_to}
use Rattle.lent.proofs.Firsts.{first_none, first_here, first_before, first_passes}
use Rattle.lent.specs.Numbers.{not_finite}
use Rattle.keep.proofs.OrderOnce.{magnitude_once}
use Rattle.passes.specs.Leaks.{sums_of, largest, ended}
use Rattle.passes.proofs.TableLaws.{table_first, table_left}
use Rattle.passes.specs.Between.{FiniteRows}

-- ---- flags for all, and for none
pick_all : (ks : List ℕ) (T : Rows) → flagged ks ≡ length ks → length ks ≡ length T → pick ks T ≡ T
unfolding pick flagged
pick_all [] [] e l = refl
pick_all [] (r ∷ T) e l = absurd (omega arith)
pick_all (k ∷ ks) [] e l = absurd (omega arith)
pick_all (k ∷ ks) (r ∷ T) e l = go (eqb k 0) e (λ f. pick_all ks T f (omega arith))
  where
    go : (b : Bool) → cond b (flagged ks) (suc (flagged ks)) ≡ suc (length ks) → (flagged ks ≡ length ks → pick ks T ≡ T) → cond b (pick ks T) (r ∷ pick ks T) ≡ r ∷ T
    go true f rest = absurd (omega (arith, f, flagged_few ks))
    go false f rest = ap (λ (t : Rows). r ∷ t) (rest (omega (arith, f)))

pick_none : (ks : List ℕ) (T : Rows) → flagged ks ≡ 0 → pick ks T ≡ []
unfolding pick flagged
pick_none [] T e = refl
pick_none (k ∷ ks) [] e = refl
pick_none (k ∷ ks) (r ∷ T) e = go (eqb k 0) e (pick_none ks T)
  where
    go : (b : Bool) → cond b (flagged ks) (suc (flagged ks)) ≡ 0 → (flagged ks ≡ 0 → pick ks T ≡ []) → cond b (pick ks T) (r ∷ pick ks T) ≡ []
    go true f rest = rest f
    go false f rest = absurd (omega (arith, f))

-- ---- the room rule
module _ (room : ℕ) (T : Rows) where
  abbrev flags : List ℕ
  flags = chosen (by_magnitude (sums_of T)) (replicate (length T) 0) room

  flags_long : length flags ≡ length T
  flags_long =
      walked_length (replicate (length T) 0) (by_magnitude (sums_of T)) room (map flag_of (replicate (length T) 0))
      ∙ length-map (replicate (length T) 0) flag_of
      ∙ length-replicate (length T) 0

  flags_raised : flagged flags ≡ min room (length T)
  flags_raised =
      let sums : List Float = sums_of T in
      let long : length sums ≡ length T = length-map T (λ r. r.sum) in
      let once : EachOnce (length T) (by_magnitude sums) = rw (← long) (magnitude_once sums) in
      chosen_unfixed (length T) (by_magnitude sums) once room

  -- as many stay as there is room for, or all
  pub largest_count : length (largest room T) ≡ min room (length T)
  unfolding largest
  largest_count =
      pick_length flags T (omega (arith, flags_long))
      ∙ ap flagged (take_all (length T) flags (omega (arith, flags_long)))
      ∙ flags_raised

  pub largest_all : length T ≤ room → largest room T ≡ T
  unfolding largest
  largest_all h = pick_all flags T (omega (arith, flags_raised, flags_long, h)) flags_long

  pub largest_none : room ≡ 0 → largest room T ≡ []
  unfolding largest
  largest_none h = pick_none flags T (omega (arith, flags_raised, h))

-- what stays is in word order
pick_after : (w : Word) (ks : List ℕ) (R : Rows) → AllAfter before w R → AllAfter before w (pick ks R)
unfolding AllAfter pick
pick_after w [] R h = tt
pick_after w (k ∷ ks) [] h = tt
pick_after w (k ∷ ks) (r ∷ R) h = go (eqb k 0) (pick_after w ks R h.1)
  where
    go : (b : Bool) → AllAfter before w (pick ks R) → AllAfter before w (cond b (pick ks R) (r ∷ pick ks R))
    go true rest = rest
    go false rest = (h.0, rest)

pick_rising : (ks : List ℕ) (R : Rows) → Rising before R → Rising before (pick ks R)
unfolding AllAfter Rising pick
pick_rising [] R h = tt
pick_rising (k ∷ ks) [] h = tt
pick_rising (k ∷ ks) (r ∷ R) h = go (eqb k 0) (pick_rising ks R h.1)
  where
    go : (b : Bool) → Rising before (pick ks R) → Rising before (cond b (pick ks R) (r ∷ pick ks R))
    go true rest = rest
    go false rest = (pick_after r.word ks R h.0, rest)

pub largest_rising : (room : ℕ) (R : Rows) → Rising before R → Rising before (largest room R)
unfolding largest
largest_rising room R = pick_rising (flags room R) R

-- after a pass that is not refused so many stay
pub ended_count : (room : ℕ) (T T' : Rows) → ended room T ≡ got T' → length T' ≡ min room (length T)
unfolding ended
ended_count room T T' e = go (ltb (first_to (length T) (not_finite (sums_of T))) (length T)) e
  where
    go : (b : Bool) → refuse_if b (SumNotFinite (first_to (length T) (not_finite (sums_of T)))) (got (largest room T)) ≡ got T' → length T' ≡ min room (length T)
    go true f = let z : ◌≡◌ {A = ℕ} 0 1 = cc in absurd (omega arith)
    go false f = let z : largest room T ≡ T' = cc in ap length (sym z) ∙ largest_count room T

-- ---- the rows that stay beside one, where they are as many as there is room for
module _ (p : Row Word Float → Bool) where
  abbrev marks : Rows → List ℕ
  marks = map (λ (r : Row Word Float). cond (p r) 1 0)

  marks_pick : (T : Rows) → pick (marks T) T ≡ those p T
  unfolding pick those
  marks_pick [] = refl
  marks_pick (r ∷ T) = go (p r) (marks_pick T)
    where
      go : (b : Bool) → pick (marks T) T ≡ those p T → cond (eqb (cond b 1 0) 0) (pick (marks T) T) (r ∷ pick (marks T) T) ≡ cond b (r ∷ those p T) (those p T)
      go true e = ap (λ (t : Rows). r ∷ t) e
      go false e = e

  marks_raised : (T : Rows) → flagged (marks T) ≡ length (those p T)
  unfolding flagged those
  marks_raised [] = refl
  marks_raised (r ∷ T) = go (p r) (marks_raised T)
    where
      go : (b : Bool) → flagged (marks T) ≡ length (those p T) → cond (eqb (cond b 1 0) 0) (flagged (marks T)) (suc (flagged (marks T))) ≡ length (cond b (r ∷ those p T) (those p T))
      go true e = ap suc e
      go false e = e

module _ (room : ℕ) (T : Rows) (rises : Rising before T) (finite : AllFinite (sums_of T)) where
  abbrev xs : List Float
  xs = sums_of T

  abbrev zeros : List ℕ
  zeros = replicate (length T) 0

  xs_long : length xs ≡ length T
  xs_long = length-map T (λ r. r.sum)

  x_at : (i : ℕ) → (get_or T i no_row).sum ≡ get_or xs i nan
  x_at i = sym (get_or-map (λ (r : Row Word Float). r.sum) T i no_row)

  module _ (k : ℕ) (h : k < length T) where
    abbrev q : Row Word Float
    q = get_or T k no_row

    -- words are compared as places are
    later : (i : ℕ) → i < length T → before q.word (get_or T i no_row).word ≡ ltb k i
    later i l = go (dec_lt k i) (dec_lt i k)
      where
        go : Dec (k < i) → Dec (i < k) → before q.word (get_or T i no_row).word ≡ ltb k i
        go (yes a) b = rising_at before strict no_row T k i rises a l ∙ sym (lt-ltb k i a)
        go (no a) (yes b) = asym before strict (get_or T i no_row).word q.word (rising_at before strict no_row T i k rises b h) ∙ sym (le-ltb k i (omega arith))
        go (no a) (no b) = let e : i ≡ k = omega arith in rw e (strict.never q.word) ∙ sym (le-ltb k i (omega arith))

    mark_is : (i : ℕ) → i < length T → cond (stays_beside q (get_or T i no_row)) 1 0 ≡ stays_flag (magnitude (get_or xs k nan)) k i (get_or xs i nan) 0
    unfolding stays_beside goes_ahead stays_flag
    mark_is i l =
        rw (x_at k, x_at i, later i l, size_lt xs finite k i (omega (arith, xs_long)) (omega (arith, xs_long)), size_lt xs finite i k (omega (arith, xs_long)) (omega (arith, xs_long)))
        (go (ltb (key_at xs i) (key_at xs k)) refl (ltb (key_at xs k) (key_at xs i)) refl (ltb k i))
      where
        go : (u : Bool) → ltb (key_at xs i) (key_at xs k) ≡ u → (v : Bool) → ltb (key_at xs k) (key_at xs i) ≡ v → (w : Bool) → ◌≡◌ {A = ℕ} (cond (not (u || (not v && w))) 1 0) (cond w (cond v 1 0) (cond u 0 1))
        go true e true f w = absurd (omega (arith, ltb-true (key_at xs i) (key_at xs k) e, ltb-true (key_at xs k) (key_at xs i) f))
        go true e false f true = refl
        go true e false f false = refl
        go false e true f true = refl
        go false e true f false = refl
        go false e false f true = refl
        go false e false f false = refl

    abbrev ks : List ℕ
    ks = marks (stays_beside q) T

    ks_at : (i : ℕ) → i < length T → get_or ks i 0 ≡ cond (stays_beside q (get_or T i no_row)) 1 0
    ks_at i l =
        let f : Row Word Float → ℕ = λ r. cond (stays_beside q r) 1 0 in
        get_d_any ks i 0 (f no_row) (omega (arith, length-map T f)) ∙ get_or-map f T i no_row
      where
        get_d_any : (l : List ℕ) (i d e : ℕ) → i < length l → get_or l i d ≡ get_or l i e
        get_d_any [] i d e g = absurd (omega arith)
        get_d_any (a ∷ l) zero d e g = refl
        get_d_any (a ∷ l) (suc i) d e g = get_d_any l i d e (omega arith)

    pub beside_largest : length (those (stays_beside (get_or T k no_row)) T) ≡ room → those (stays_beside (get_or T k no_row)) T ≡ largest room T
    unfolding largest
    beside_largest e =
        let zl : length zeros ≡ length T = length-replicate (length T) 0 in
        let kl : length ks ≡ length T = length-map T (λ r. cond (stays_beside q r) 1 0) in
        let keeps : KeepsTo xs zeros k room ks = record {
          long = kl ∙ sym zl;
          flags = λ i l.
              let m : i < length T = omega (arith, zl) in
              ks_at i m ∙ mark_is i m ∙ ap (stays_flag (magnitude (get_or xs k nan)) k i (get_or xs i nan)) (sym (get_or-replicate (length T) i 0 0 m));
          others = omega (arith, e, flagged_none (length T), marks_raised (stays_beside q) T);
        } in
        sym (marks_pick (stays_beside q) T) ∙ ap (λ (l : List ℕ). pick l T) (chosen_by_last xs finite zeros (zl ∙ sym xs_long) room k (omega (arith, xs_long)) ks keeps)

-- ---- of rows that stand in any order
module _ (room : ℕ) (U : Rows) (once : length (in_word_order U) ≡ length U) where
  abbrev T : Rows
  T = in_word_order U

  none_lost : length T ≡ length U + 0
  none_lost = omega (arith, once)

  -- what holds of each row in word order holds of each as they stand, and the other way
  pub to_order : (P : Row Word Float → Type 0) → Each P U → Each P (in_word_order U)
  unfolding in_word_order Each
  to_order P u = each_all before floats.nought strict P U [] u tt

  pub from_order : (P : Row Word Float → Type 0) → Each P (in_word_order U) → Each P U
  unfolding in_word_order
  from_order P t = (all_each before floats.nought strict P U [] none_lost t).0

  module _ (p : Row Word Float → Bool) where
    pub order_count : length (those p (in_word_order U)) ≡ length (those p U)
    unfolding in_word_order those
    order_count = those_count before floats.nought strict p U [] none_lost ∙ omega arith

    pub order_those : those p (in_word_order U) ≡ in_word_order (those p U)
    unfolding in_word_order those Rising
    order_those = those_order before floats.nought strict p U [] tt none_lost

  pub cut_is : AllFinite (sums_of (in_word_order U)) → (q : ℕ) → q < length U → length (those (stays_beside (get_or U q no_row)) U) ≡ room
      → (in_word_order (those (stays_beside (get_or U q no_row)) U) ≡ largest room (in_word_order U)) × (length (in_word_order (those (stays_beside (get_or U q no_row)) U)) ≡ length (those (stays_beside (get_or U q no_row)) U))
  cut_is finite q h e =
      let r : Row Word Float = get_or U q no_row in
      let said : Each (λ (t : Row Word Float). length (those (stays_beside t) T) ≡ room → those (stays_beside t) T ≡ largest room T) U =
      from_order (λ (t : Row Word Float). length (those (stays_beside t) T) ≡ room → those (stays_beside t) T ≡ largest room T)
      (each_by (λ (t : Row Word Float). length (those (stays_beside t) T) ≡ room → those (stays_beside t) T ≡ largest room T) no_row T (λ k l. beside_largest room T (order_rising U) finite k l)) in
      let f : those (stays_beside r) T ≡ largest room T =
      each_at (λ (t : Row Word Float). length (those (stays_beside t) T) ≡ room → those (stays_beside t) T ≡ largest room T) no_row U q said h (order_count (stays_beside r) ∙ e) in
      (sym (order_those (stays_beside r)) ∙ f, ap length (sym (order_those (stays_beside r))) ∙ order_count (stays_beside r))

-- ---- in lent tables
abbrev Finite : Row Word Float → Type 0
Finite r = is_finite r.sum ≡ true

abbrev Fitting : Row Word Float → Type 0
Fitting r = D.T (fits binary64 r.sum)

true_is : (b : Bool) → b ≡ true → D.T b
true_is true e = tt
true_is false e = absurd (true≢false (sym e))

module _ (n : ℕ) (lanes : List ℕ) (sums : List Float) (hl : word_lanes * n ≤ length lanes) (hs : n ≤ length sums) where
  abbrev held : Rows
  held = candidate_rows n lanes sums

  long : length held ≡ n
  long = table_long n lanes sums hl hs

  sum_at : (k : ℕ) → k < n → (get_or held k no_row).sum ≡ get_or sums k nan
  sum_at k h = ap (λ (r : Row Word Float). r.sum) (table_at n lanes sums k hl hs h)

  -- the first n places by themselves
  abbrev pub front_words : List Word
  front_words = words (take (n * word_lanes) lanes)

  front_rows : rows front_words (take n sums) ≡ held
  front_rows =
      sym (take_all n (rows front_words (take n sums)) (omega (arith, rows_few front_words (take n sums), front_words_lem)))
      ∙ table_first n n lanes sums (omega arith)
    where
      front_words_lem : length front_words ≡ n
      front_words_lem = words_count (take (n * word_lanes) lanes) ∙ omega (arith, length-take-le (n * word_lanes) lanes (omega (arith, hl)))

  -- none is bad
  pub order_finite : (bad : ℕ) → bad ≡ first_to n (not_finite sums) → n ≤ bad → FiniteRows (in_word_order (candidate_rows n lanes sums))
  unfolding in_word_order Each not_finite
  order_finite bad is h =
      let each : Each Finite held =
      each_by Finite no_row held
      (λ k l. let m : k < n = omega (arith, long) in ap is_finite (sum_at k m) ∙ not-false (is_finite (get_or sums k nan)) (first_before n (not_finite sums) k (omega (arith, is)))) in
      λ k l. each_at Finite no_row (in_word_order held) k (each_all before floats.nought strict Finite held [] each tt) l

  -- one is
  pub bad_there : (bad : ℕ) → bad ≡ first_to n (not_finite sums) → bad < n → is_finite (get_or (take n sums) bad nan) ≡ false
  unfolding not_finite
  bad_there bad is h =
      let q : not (is_finite (get_or sums bad nan)) ≡ true = rw is (first_passes n (not_finite sums) (omega (arith, is))) in
      ap is_finite (get_or-take n sums bad nan h) ∙ not-true (is_finite (get_or sums bad nan)) q

  module _ (once : length (in_word_order (candidate_rows n lanes sums)) ≡ n) where
    all_once : length (in_word_order held) ≡ length held
    all_once = once ∙ sym long

    -- what the cut asks for
    pub front_once : length (in_word_order (rows (words (take (n * word_lanes) lanes)) (take n sums))) ≡ length (take n sums)
    front_once = ap (λ (t : Rows). length (in_word_order t)) front_rows ∙ once ∙ sym (length-take-le n sums hs)

    pub front_finite : FiniteRows (in_word_order (candidate_rows n lanes sums)) → AreFinite (take n sums)
    front_finite f i h =
        let m : i < n = omega (arith, length-take-le n sums hs) in
        let each : Each Finite held = from_order 0 held all_once Finite (each_by Finite no_row (in_word_order held) f) in
        true_is (is_finite (get_or (take n sums) i nan)) (ap is_finite (get_or-take n sums i nan m ∙ sym (sum_at i m)) ∙ each_at Finite no_row held i each (omega (arith, long)))

    -- where one is bad, the first in word order is told
    pub ended_first : (room place : ℕ) → BadPlace (length (take n sums)) (words (take (n * word_lanes) lanes)) (take n sums) place → ended room (in_word_order (candidate_rows n lanes sums)) ≡ refused (SumNotFinite place)
    unfolding ended not_finite
    ended_first room place b =
        let xl : length (take n sums) ≡ n = length-take-le n sums hs in
        let wl : length front_words ≡ length (take n sums) = words_count (take (n * word_lanes) lanes) ∙ omega (arith, xl, length-take-le (n * word_lanes) lanes (omega (arith, hl))) in
        let t : FirstBad (in_word_order held) place = rw front_rows at (first_bad front_words (take n sums) wl front_once place b) in
        let T : Rows = in_word_order held in
        let at : (k : ℕ) → get_or (sums_of T) k nan ≡ (get_or T k no_row).sum = λ k. get_or-map (λ (r : Row Word Float). r.sum) T k no_row in
        let e : first_to (length T) (not_finite (sums_of T)) ≡ place =
        first_here (length T) (not_finite (sums_of T)) place t.inside (λ k l. ap not (ap is_finite (at k) ∙ t.fine k l)) (ap not (ap is_finite (at place) ∙ t.bad)) in
        rw (e, lt-ltb place (length T) t.inside)

    -- what the cut leaves
    module _ (room r : ℕ) (lanes' : List ℕ) (sums' : List Float) (el : length lanes' ≡ length (take (n * word_lanes) lanes)) (es : length sums' ≡ length (take n sums))
        (fitting : (i : ℕ) → i < length sums → D.T (fits binary64 (get_or sums i nan))) (finite : FiniteRows (in_word_order (candidate_rows n lanes sums)))
        (k : CutTo room (words (take (n * word_lanes) lanes)) (take n sums) r lanes' sums') where
      xl : length (take n sums) ≡ n
      xl = length-take-le n sums hs

      few : r ≤ n
      few = omega (arith, k.few, xl)

      sums_finite : AllFinite (sums_of (in_word_order held))
      sums_finite =
          let T : Rows = in_word_order held in
          let sl : length (sums_of T) ≡ length T = length-map T (λ t. t.sum) in
          let fit : Each Fitting T = to_order 0 held all_once Fitting (each_by Fitting no_row held (λ i l. rw (sum_at i (omega (arith, long))) (fitting i (omega (arith, long, hs))))) in
          record {
            fitting = λ i l. rw (get_or-map (λ (t : Row Word Float). t.sum) T i no_row) (each_at Fitting no_row T i fit (omega (arith, sl)));
            numbers = λ i l. rw (get_or-map (λ (t : Row Word Float). t.sum) T i no_row) (true_is (is_finite (get_or T i no_row).sum) (finite i (omega (arith, sl))));
          }

      pub cut_left : (r ≤ n) × (in_word_order (candidate_rows r (lanes' ++ drop (n * word_lanes) lanes) (sums' ++ drop n sums)) ≡ largest room (in_word_order (candidate_rows n lanes sums)))
          × (length (in_word_order (candidate_rows r (lanes' ++ drop (n * word_lanes) lanes) (sums' ++ drop n sums))) ≡ r)
      cut_left =
          let q : ℕ = k.last in
          let qn : q < n = omega (arith, k.pivot.inside, xl) in
          let wl : length (take (n * word_lanes) lanes) ≡ n * word_lanes = length-take-le (n * word_lanes) lanes (omega (arith, hl)) in
          let row_is : row_at front_words (take n sums) q ≡ get_or held q no_row =
          sym (rows_at front_words (take n sums) q (omega (arith, words_count (take (n * word_lanes) lanes), wl)) k.pivot.inside) ∙ ap (λ (t : Rows). get_or t q no_row) front_rows in
          let p : Row Word Float → Bool = stays_beside (get_or held q no_row) in
          let count : length (those p held) ≡ room = rw (row_is, front_rows) at k.pivot.count in
          let left : candidate_rows r lanes' sums' ≡ those p held = rw (row_is, front_rows) at k.left in
          let now : candidate_rows r (lanes' ++ drop (n * word_lanes) lanes) (sums' ++ drop n sums) ≡ those p held = table_left r n lanes lanes' sums sums' few (el ∙ wl) (es ∙ xl) ∙ left in
          let c = cut_is room held all_once sums_finite q (omega (arith, long)) count in
          let size : length (those p held) ≡ r = sym (ap length left) ∙ table_long r lanes' sums' (omega (arith, el, wl, few)) (omega (arith, es, xl, few)) in
          (few, rw now c.0, rw now (c.1 ∙ size))

-- ---- a pass's end that is not refused
pub ended_fine : (room : ℕ) (T : Rows) → FiniteRows T → ended room T ≡ got (largest room T)
unfolding ended not_finite
ended_fine room T f =
    let e : first_to (length T) (not_finite (sums_of T)) ≡ length T =
    first_none (length T) (not_finite (sums_of T)) (λ k h. ap not (ap is_finite (get_or-map (λ (r : Row Word Float). r.sum) T k no_row) ∙ f k h)) in
    rw (e, le-ltb (length T) (length T) (omega arith))

pub ended_all : (room : ℕ) (T : Rows) → FiniteRows T → length T ≤ room → ended room T ≡ got T
ended_all room T f h = ended_fine room T f ∙ ap got (largest_all room T h)

-- ---- what is left stands with its slots
pub stand_exact : (places n : ℕ) (lanes : List ℕ) (sums : List Float) (heads nexts : List ℕ) → Standing places n lanes sums heads nexts → Standing n n lanes sums heads nexts
stand_exact places n lanes sums heads nexts k =
    record {
      lanes_long = omega (arith, k.lanes_long, k.inside);
      sums_long = omega (arith, k.sums_long, k.inside);
      heads_long = omega (arith, k.heads_long, k.inside);
      nexts_long = omega (arith, k.nexts_long, k.inside);
      inside = omega arith;
      slots = k.slots;
      once = k.once;
    }

pub cut_none : (n room : ℕ) (lanes : List ℕ) (sums : List Float) (T : Rows) → room ≡ 0 → (0 ≤ n) × (in_word_order (candidate_rows 0 lanes sums) ≡ largest room T) × (length (in_word_order (candidate_rows 0 lanes sums)) ≡ 0)
unfolding in_word_order put_all
cut_none n room lanes sums T e = (omega arith, sym (largest_none room T e), refl)

pub cut_stands : (places n room held : ℕ) (U : Rows) (lanes : List ℕ) (sums : List Float) (heads nexts work : List ℕ) → word_lanes * places ≤ length lanes → places ≤ length sums → places ≤ length heads → places ≤ length work → n ≤ places
    → (held ≤ n) × (in_word_order (candidate_rows held lanes sums) ≡ largest room (in_word_order U)) × (length (in_word_order (candidate_rows held lanes sums)) ≡ held) → length nexts ≡ held → Slotted (words (take (held * word_lanes) lanes)) heads nexts
    → Standing places held lanes sums heads (nexts ++ drop held work) × (in_word_order (candidate_rows held lanes sums) ≡ largest room (in_word_order U))
cut_stands places n room held U lanes sums heads nexts work hl hs hh hw hn q ln s =
    let e : held * word_lanes ≡ word_lanes * held = omega arith in
    let ws : words (take (held * word_lanes) lanes) ≡ take held (words lanes) = ap (λ (k : ℕ). words (take k lanes)) e ∙ words_take held lanes in
    let first : take held (nexts ++ drop held work) ≡ nexts = take_at nexts (drop held work) held ln in (
      record {
        lanes_long = hl;
        sums_long = hs;
        heads_long = hh;
        nexts_long = omega (arith, length-append nexts (drop held work), length-drop held work, ln);
        inside = omega (arith, q.0);
        slots = rw (first, ← ws) s;
        once = q.2;
      },
      q.1,
    )
