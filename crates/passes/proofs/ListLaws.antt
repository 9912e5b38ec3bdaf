-- SPDX-FileCopyrightText: 2026 The PPVM Authors
-- SPDX-License-Identifier: Apache-2.0

-- The candidates that are listed, one by one: what is left to list after the first of them. Assumes nothing.
use mathlib.Core.Path.{◌≡◌, ap, ◌∙◌, subst}
use mathlib.Core.Bool.{Bool, true, false, cond}
use mathlib.Core.List.{List, [], ◌∷◌}
use Prim.Native.Nat.{ℕ, suc, ◌+◌, ◌*◌, ◌≤◌, ◌<◌}
use native.Mathlib.Numerals.{add-one}
use native.Mathlib.Omega.{arith}
use lib.Ieee.{Float, nan}
use lib.ListN.{length, get_or, drop, set, drop_of_length-le, length-map, get_or-map}
use lib.Seq.{drop-cons}
use Rattle.word.specs.Flat.{words, lay_word, word_lanes}
use Rattle.word.specs.Word.{identity}
use Rattle.word.specs.declared.word.Word.{Word}
use Rattle.candidates.specs.Sums.{Row}
use Rattle.candidates.specs.Tables.{Rows}
use Rattle.candidates.specs.Between.{row_at}
use Rattle.lent.specs.Laid.{laid}
use Rattle.passes.specs.Leaks.{above, words_of, sums_of}
use Rattle.limits.specs.Defaults.{is_above}
use Rattle.passes.specs.Between.{rows_at, Placed}

module _ (tau : Float) (lanes : List ℕ) (sums : List Float) (order : List ℕ) where
  abbrev held : Rows
  held = rows_at lanes sums order

  -- what is left to list from place i on
  abbrev left : ℕ → Rows
  left i = above tau (drop i held)

  left_none : (i : ℕ) → length order ≤ i → left i ≡ []
  unfolding above
  left_none i l =
      let e = length-map order (row_at (words lanes) sums) in
      let k : length held ≤ i = omega (arith, e, l) in
      ap (above tau) (drop_of_length-le held k)

  module _ (i : ℕ) (l : i < length order) where
    abbrev here : Row Word Float
    here = row_at (words lanes) sums (get_or order i 0)

    next : drop i held ≡ here ∷ drop (i + 1) held
    next =
        let f : ℕ → Row Word Float = row_at (words lanes) sums in
        rw (add-one i)
        (drop-cons held i (f 0) (omega (arith, length-map order f, l))
        ∙ ap (λ (r : Row Word Float). r ∷ drop (suc i) held) (get_or-map f order i 0))

    by_test : (b : Bool) → is_above tau (get_or sums (get_or order i 0) nan) ≡ b → left i ≡ cond b (here ∷ left (i + 1)) (left (i + 1))
    unfolding above
    by_test b f = ap (above tau) next ∙ ap (λ (c : Bool). cond c (here ∷ left (i + 1)) (left (i + 1))) f

    left_listed : is_above tau (get_or sums (get_or order i 0) nan) ≡ true → left i ≡ here ∷ left (i + 1)
    left_listed f = by_test true f

    left_passed : is_above tau (get_or sums (get_or order i 0) nan) ≡ false → left i ≡ left (i + 1)
    left_passed f = by_test false f

-- ---- counting them
pub record CountState (tau : Float) (lanes : List ℕ) (sums : List Float) (order : List ℕ) (count i : ℕ) : Type 0 where
  pub few : count ≤ i
  pub counted : count + length (left tau lanes sums order i) ≡ length (above tau (rows_at lanes sums order))

module _ (tau : Float) (lanes : List ℕ) (sums : List Float) (order : List ℕ) (count i : ℕ) (s : CountState tau lanes sums order count i) where
  module _ (l : i < length order) where
    pub count_lists : is_above tau (get_or sums (get_or order i 0) nan) ≡ true → CountState tau lanes sums order (count + 1) (i + 1)
    count_lists f = let k = ap length (left_listed tau lanes sums order i l f) in record { few = omega (arith, s.few); counted = omega (arith, s.counted, k) }

    pub count_passes : is_above tau (get_or sums (get_or order i 0) nan) ≡ false → CountState tau lanes sums order count (i + 1)
    count_passes f = let k = ap length (left_passed tau lanes sums order i l f) in record { few = omega (arith, s.few); counted = omega (arith, s.counted, k) }

  pub count_done : length order ≤ i → count ≡ length (above tau (rows_at lanes sums order))
  count_done l = let k : length (left tau lanes sums order i) ≡ 0 = ap length (left_none tau lanes sums order i l) in omega (arith, s.counted, k)

-- ---- laying them
pub record ListState (tau : Float) (lanes : List ℕ) (sums : List Float) (order : List ℕ) (outWords₀ : List ℕ) (outValues₀ : List Float) (outWords : List ℕ) (outValues : List Float) (place i : ℕ) : Type 0 where
  pub words_same : length outWords ≡ length outWords₀
  pub values_same : length outValues ≡ length outValues₀
  pub count : place + length (left tau lanes sums order i) ≡ length (left tau lanes sums order 0)
  pub words_left : laid lay_word place (words_of (left tau lanes sums order i)) outWords ≡ laid lay_word 0 (words_of (left tau lanes sums order 0)) outWords₀
  pub values_left : laid set place (sums_of (left tau lanes sums order i)) outValues ≡ laid set 0 (sums_of (left tau lanes sums order 0)) outValues₀

module _ (tau : Float) (lanes : List ℕ) (sums : List Float) (order : List ℕ) (outWords₀ : List ℕ) (outValues₀ : List Float) where
  abbrev State : List ℕ → List Float → ℕ → ℕ → Type 0
  State = ListState tau lanes sums order outWords₀ outValues₀

  abbrev rest : ℕ → Rows
  rest = left tau lanes sums order

  module _ (room : Placed lanes sums order × (word_lanes * length (above tau (rows_at lanes sums order)) ≤ length outWords₀) × (length (above tau (rows_at lanes sums order)) ≤ length outValues₀))
      (outWords : List ℕ) (outValues : List Float) (place i : ℕ) (s : State outWords outValues place i) where
    words_from : (L : Rows) → rest i ≡ L → laid lay_word place (words_of L) outWords ≡ laid lay_word 0 (words_of (rest 0)) outWords₀
    words_from L e = subst (λ (M : Rows). laid lay_word place (words_of M) outWords ≡ laid lay_word 0 (words_of (rest 0)) outWords₀) e s.words_left

    values_from : (L : Rows) → rest i ≡ L → laid set place (sums_of L) outValues ≡ laid set 0 (sums_of (rest 0)) outValues₀
    values_from L e = subst (λ (M : Rows). laid set place (sums_of M) outValues ≡ laid set 0 (sums_of (rest 0)) outValues₀) e s.values_left

    module _ (l : i < length order) where
      pub list_passes : is_above tau (get_or sums (get_or order i 0) nan) ≡ false → State outWords outValues place (i + 1)
      list_passes f =
          let e = left_passed tau lanes sums order i l f in
          let k = ap length e in
          record { words_same = s.words_same; values_same = s.values_same; count = omega (arith, s.count, k); words_left = words_from (rest (i + 1)) e; values_left = values_from (rest (i + 1)) e }

      module _ (f : is_above tau (get_or sums (get_or order i 0) nan) ≡ true) where
        abbrev one : Row Word Float
        one = row_at (words lanes) sums (get_or order i 0)

        listed : rest i ≡ one ∷ rest (i + 1)
        listed = left_listed tau lanes sums order i l f

        -- there is a place for it
        pub list_place : (word_lanes * place + word_lanes ≤ length outWords) × (place < length outValues)
        list_place =
            let k = ap length listed in
            (omega (arith, s.count, k, s.words_same, room.1), omega (arith, s.count, k, s.values_same, room.2))

        pub list_lays : (w : Word) (outWords' : List ℕ) (outValues' : List Float) → w ≡ get_or (words lanes) (get_or order i 0) identity → outWords' ≡ lay_word outWords place w → outValues' ≡ set outValues place (get_or sums (get_or order i 0) nan)
            → length outWords' ≡ length outWords → length outValues' ≡ length outValues → State outWords' outValues' (place + 1) (i + 1)
        unfolding laid
        list_lays w outWords' outValues' e ew ev lw lv =
            record {
              words_same = lw ∙ s.words_same;
              values_same = lv ∙ s.values_same;
              count = let k = ap length listed in omega (arith, s.count, k);
              words_left = rw (add-one place, ew, e) (words_from (one ∷ rest (i + 1)) listed);
              values_left = rw (add-one place, ev) (values_from (one ∷ rest (i + 1)) listed);
            }

    pub list_done : length order ≤ i → (outWords ≡ laid lay_word 0 (words_of (rest 0)) outWords₀) × (outValues ≡ laid set 0 (sums_of (rest 0)) outValues₀)
    unfolding laid
    list_done l =
        let e = left_none tau lanes sums order i l in
        (words_from [] e, values_from [] e)
