-- SPDX-FileCopyrightText: 2026 The PPVM Authors
-- SPDX-License-Identifier: Apache-2.0

-- The sums that are listed, one by one: what is left to list after the first of them. Assumes nothing.
use mathlib.Core.Path.{◌≡◌, sym, ap, ◌∙◌, subst}
use mathlib.Core.Bool.{Bool, true, false, cond}
use mathlib.Core.List.{List, [], ◌∷◌, map}
use Prim.Native.Nat.{ℕ, suc, ◌+◌, ◌*◌, ◌≤◌, ◌<◌}
use native.Mathlib.Numerals.{add-one}
use native.Mathlib.Omega.{arith}
use lib.Ieee.{Float}
use lib.ListN.{length, drop, set, drop_of_length-le}
use lib.Seq.{drop-cons, get_or-take}
use Rattle.word.specs.Flat.{words, lay_word, word_lanes}
use Rattle.word.proofs.FlatLaws.{words_high}
use Rattle.number.specs.Floats.{floats}
use Rattle.gksl.specs.Table.{without_over}
use Rattle.sums.specs.Numbers.{complexes}
use Rattle.sums.specs.Sums.{rows, sum_rows}
use Rattle.sums.proofs.NumberLaws.{complexes_high}
use Rattle.sums.proofs.SumLaws.{table_long}
use Rattle.model.specs.Terms.{Term, term_at}
use Rattle.lent.specs.Laid.{laid}
use Rattle.model.proofs.TermLaws.{rows_at}
use Rattle.action.specs.Acts.{listed}
use Rattle.action.specs.Between.{Lists, ListRoom}

-- what is left to list from place i on
abbrev pub left : ℕ → List ℕ → List Float → ℕ → List Term
left len lanes sums i = listed (drop i (sum_rows len lanes sums))

module _ (len : ℕ) (lanes : List ℕ) (sums : List Float) (hl : word_lanes * len ≤ length lanes) (hs : 2 * len ≤ length sums) where
  pub left_none : (i : ℕ) → len ≤ i → left len lanes sums i ≡ []
  unfolding without_over
  left_none i h =
      let n = table_long len lanes sums hl hs in
      let l : length (sum_rows len lanes sums) ≤ i = omega (arith, n) in
      ap listed (drop_of_length-le (sum_rows len lanes sums) l)

  module _ (i : ℕ) (h : i < len) (t : Term) (e : t ≡ term_at lanes sums i) where
    next : drop i (sum_rows len lanes sums) ≡ t ∷ drop (i + 1) (sum_rows len lanes sums)
    next =
        let T : List Term = sum_rows len lanes sums in
        rw (add-one i)
        (drop-cons T i t (omega (arith, table_long len lanes sums hl hs))
        ∙ ap (λ (u : Term). u ∷ drop (suc i) T)
        (get_or-take len (rows (words lanes) (complexes sums)) i t h
        ∙ rows_at (words lanes) (complexes sums) i t (omega (arith, words_high lanes)) (omega (arith, complexes_high sums))
        ∙ sym e))

    by_test : (b : Bool) → floats.is_zero t.num.re ≡ b → left len lanes sums i ≡ cond b (left len lanes sums (i + 1)) (t ∷ left len lanes sums (i + 1))
    unfolding without_over
    by_test b f = ap listed next ∙ ap (λ (c : Bool). cond c (left len lanes sums (i + 1)) (t ∷ left len lanes sums (i + 1))) f

    pub left_passed : floats.is_zero t.num.re ≡ true → left len lanes sums i ≡ left len lanes sums (i + 1)
    left_passed f = by_test true f

    pub left_listed : floats.is_zero t.num.re ≡ false → left len lanes sums i ≡ t ∷ left len lanes sums (i + 1)
    left_listed f = by_test false f

-- ---- counting them
pub record CountState (len : ℕ) (lanes : List ℕ) (sums : List Float) (count i : ℕ) : Type 0 where
  pub few : count ≤ i
  pub counted : count + length (left len lanes sums i) ≡ length (listed (sum_rows len lanes sums))

module _ (len : ℕ) (lanes : List ℕ) (sums : List Float) (hl : word_lanes * len ≤ length lanes) (hs : 2 * len ≤ length sums) (count i : ℕ) (s : CountState len lanes sums count i) where
  module _ (h : i < len) (t : Term) (e : t ≡ term_at lanes sums i) where
    pub count_passes : floats.is_zero t.num.re ≡ true → CountState len lanes sums count (i + 1)
    count_passes f = record { few = omega (arith, s.few); counted = subst (λ (L : List Term). count + length L ≡ length (listed (sum_rows len lanes sums))) (left_passed len lanes sums hl hs i h t e f) s.counted }

    pub count_lists : floats.is_zero t.num.re ≡ false → CountState len lanes sums (count + 1) (i + 1)
    count_lists f = let k = ap length (left_listed len lanes sums hl hs i h t e f) in record { few = omega (arith, s.few); counted = omega (arith, s.counted, k) }

  pub count_done : len ≤ i → count ≡ length (listed (sum_rows len lanes sums))
  unfolding without_over
  count_done h = let k : length (left len lanes sums i) ≡ 0 = ap length (left_none len lanes sums hl hs i h) in omega (arith, s.counted, k)

-- ---- laying them
pub record ListState (len : ℕ) (lanes : List ℕ) (sums : List Float) (outWords₀ : List ℕ) (outValues₀ : List Float) (outWords : List ℕ) (outValues : List Float) (place i : ℕ) : Type 0 where
  pub words_same : length outWords ≡ length outWords₀
  pub values_same : length outValues ≡ length outValues₀
  pub count : place + length (left len lanes sums i) ≡ length (left len lanes sums 0)
  pub words_left : laid lay_word place (map (λ c. c.word) (left len lanes sums i)) outWords ≡ laid lay_word 0 (map (λ c. c.word) (left len lanes sums 0)) outWords₀
  pub values_left : laid set place (map (λ c. c.num.re) (left len lanes sums i)) outValues ≡ laid set 0 (map (λ c. c.num.re) (left len lanes sums 0)) outValues₀

module _ (len : ℕ) (lanes : List ℕ) (sums : List Float) (outWords₀ : List ℕ) (outValues₀ : List Float) (room : ListRoom len lanes sums outWords₀ outValues₀) where
  abbrev rest : ℕ → List Term
  rest = left len lanes sums

  abbrev State : List ℕ → List Float → ℕ → ℕ → Type 0
  State = ListState len lanes sums outWords₀ outValues₀

  module _ (outWords : List ℕ) (outValues : List Float) (place i : ℕ) (s : State outWords outValues place i) where
    module _ (h : i < len) (t : Term) (e : t ≡ term_at lanes sums i) where
      pub list_passes : floats.is_zero t.num.re ≡ true → State outWords outValues place (i + 1)
      list_passes f =
          let l = left_passed len lanes sums room.lanes_long room.sums_long i h t e f in
          record {
            words_same = s.words_same;
            values_same = s.values_same;
            count = subst (λ (L : List Term). place + length L ≡ length (rest 0)) l s.count;
            words_left = subst (λ (L : List Term). laid lay_word place (map (λ c. c.word) L) outWords ≡ laid lay_word 0 (map (λ c. c.word) (rest 0)) outWords₀) l s.words_left;
            values_left = subst (λ (L : List Term). laid set place (map (λ c. c.num.re) L) outValues ≡ laid set 0 (map (λ c. c.num.re) (rest 0)) outValues₀) l s.values_left;
          }

      module _ (f : floats.is_zero t.num.re ≡ false) where
        one : rest i ≡ t ∷ rest (i + 1)
        one = left_listed len lanes sums room.lanes_long room.sums_long i h t e f

        -- there is a place for it
        pub list_place : (word_lanes * place + word_lanes ≤ length outWords) × (place < length outValues)
        list_place =
            let n = s.count in
            let k = ap length one in
            (omega (arith, n, k, s.words_same, room.words_room), omega (arith, n, k, s.values_same, room.values_room))

        pub list_lays : (outWords' : List ℕ) (outValues' : List Float) → outWords' ≡ lay_word outWords place t.word → outValues' ≡ set outValues place t.num.re
            → length outWords' ≡ length outWords → length outValues' ≡ length outValues → State outWords' outValues' (place + 1) (i + 1)
        unfolding laid
        list_lays outWords' outValues' ew ev lw lv =
            record {
              words_same = lw ∙ s.words_same;
              values_same = lv ∙ s.values_same;
              count = let k = ap length one in omega (arith, s.count, k);
              words_left = rw (add-one place, ew) (subst (λ (L : List Term). laid lay_word place (map (λ c. c.word) L) outWords ≡ laid lay_word 0 (map (λ c. c.word) (rest 0)) outWords₀) one s.words_left);
              values_left = rw (add-one place, ev) (subst (λ (L : List Term). laid set place (map (λ c. c.num.re) L) outValues ≡ laid set 0 (map (λ c. c.num.re) (rest 0)) outValues₀) one s.values_left);
            }

    pub list_done : len ≤ i → Lists (listed (sum_rows len lanes sums)) outWords₀ outValues₀ outWords outValues
    unfolding laid
    list_done h =
        let n = left_none len lanes sums room.lanes_long room.sums_long i h in
        record {
          words_are = subst (λ (L : List Term). laid lay_word place (map (λ c. c.word) L) outWords ≡ laid lay_word 0 (map (λ c. c.word) (rest 0)) outWords₀) n s.words_left;
          values_are = subst (λ (L : List Term). laid set place (map (λ c. c.num.re) L) outValues ≡ laid set 0 (map (λ c. c.num.re) (rest 0)) outValues₀) n s.values_left;
        }
