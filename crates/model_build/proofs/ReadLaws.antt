-- SPDX-FileCopyrightText: 2026 The PPVM Authors
-- SPDX-License-Identifier: Apache-2.0

-- An operator read into the work table term by term: those read and those left are all. Assumes nothing.
use mathlib.Core.Path.{◌≡◌, refl, sym, ap, ap₂, ◌∙◌}
use mathlib.Core.List.{List, [], ◌∷◌, ◌++◌, map, append_assoc, append-nil}
use Prim.Native.Nat.{ℕ, zero, suc, ◌+◌, ◌-◌, ◌*◌, ◌≤◌, ◌<◌}
use native.Mathlib.Omega.{arith}
use lib.Ieee.{Float, nan}
use lib.ListN.{length, get_or, take, drop, set, length-drop}
use lib.Seq.{take-suc-set, drop-set-add}
use Rattle.word.specs.Flat.{words, word_lanes}
use Rattle.word.specs.declared.word.Word.{Word}
use Rattle.word.proofs.FlatLaws.{words_high}
use Rattle.number.specs.Numbers.{Cx}
use Rattle.number.specs.Floats.{floats}
use Rattle.gksl.specs.Operator.{Onto}
use Rattle.gksl.specs.Words.{pauli}
use Rattle.sums.specs.Numbers.{complexes, no_number}
use Rattle.sums.specs.Sums.{rows, row}
use Rattle.sums.proofs.NumberLaws.{complexes_high, complexes_at}
use Rattle.model_build.specs.Given.{GivenTerm}
use Rattle.model_build.specs.Built.{parts, term_items}
use Rattle.lent.specs.Laid.{total}
use Rattle.model_build.specs.Taken.{word_taken, term_taken}
use Rattle.model_build.specs.Work.{operator_in, ReadRoom, TextsFit, operator_taken}
use Rattle.model_build.proofs.Parts.{total_turn, part_is, term_turn, term_end}
use Rattle.model.specs.Terms.{Term}
use Rattle.model.proofs.TermLaws.{onto_eq, rows_length}
use Rattle.word.specs.Between.{LaysWord}
use Rattle.sums.specs.Between.{LaysNumber}

-- ---- a row laid past those that are read
rows_set : (a : List Word) (b : List (Cx floats)) (p : ℕ) (w : Word) (z : Cx floats) → rows (set a p w) (set b p z) ≡ set (rows a b) p (row w z)
unfolding rows
rows_set [] b p w z = refl
rows_set (v ∷ a) [] zero w z = refl
rows_set (v ∷ a) [] (suc p) w z = refl
rows_set (v ∷ a) (y ∷ b) zero w z = refl
rows_set (v ∷ a) (y ∷ b) (suc p) w z = ap (λ (t : List (Onto floats pauli)). row v y ∷ t) (rows_set a b p w z)

operator_more : (i : ℕ) (lanes lanes' : List ℕ) (numbers numbers' : List Float) (w : Word) (z : Cx floats)
    → word_lanes * (256 + i) + word_lanes ≤ length lanes → 2 * (256 + i) + 2 ≤ length numbers
    → LaysWord lanes (256 + i) w lanes' → LaysNumber numbers (256 + i) z numbers'
    → operator_in (i + 1) lanes' numbers' ≡ operator_in i lanes numbers ++ (row w z ∷ [])
operator_more i lanes lanes' numbers numbers' w z hl hn lw ln =
    let R : List (Onto floats pauli) = rows (words lanes) (complexes numbers) in
    let e : 256 + (i + 1) - 256 ≡ suc i = omega arith in
    let e₀ : 256 + i - 256 ≡ i = omega arith in
    let in_r : suc (256 + i) ≤ length R = rows_length (words lanes) (complexes numbers) (suc (256 + i)) (omega (arith, words_high lanes)) (omega (arith, complexes_high numbers)) in
    ap (λ (m : ℕ). take m (drop 256 (rows (words lanes') (complexes numbers')))) e
    ∙ ap (λ (l : List (Onto floats pauli)). take (suc i) (drop 256 l)) (ap₂ rows lw.list ln.list ∙ rows_set (words lanes) (complexes numbers) (256 + i) w z)
    ∙ ap (take (suc i)) (drop-set-add 256 R i (row w z))
    ∙ take-suc-set (drop 256 R) i (row w z) (omega (arith, length-drop 256 R, in_r))
    ∙ ap (λ (m : ℕ). take m (drop 256 R) ++ (row w z ∷ [])) (sym e₀)

-- ---- the terms that are left at term i, whose text starts at place p
module _ (n : ℕ) (ns l : List ℕ) (xs : List Float) where
  abbrev left : ℕ → ℕ → List Term
  left i p = map (term_taken n) (term_items (parts (drop i ns) (drop p l)) (complexes (drop (2 * i) xs)))

  pub record ReadState (lanes₀ : List ℕ) (numbers₀ : List Float) (lanes : List ℕ) (numbers : List Float) (p i : ℕ) : Type 0 where
    pub lanes_same : length lanes ≡ length lanes₀
    pub numbers_same : length numbers ≡ length numbers₀
    pub high : i ≤ length ns
    pub texts_left : p + total (drop i ns) ≤ length l
    pub reads : operator_in i lanes numbers ++ left i p ≡ operator_taken n ns l xs

  module _ (lanes₀ : List ℕ) (numbers₀ : List Float) (fit : TextsFit ns l xs) (room : ReadRoom (length ns) lanes₀ numbers₀) where
    module _ (lanes lanes' : List ℕ) (numbers numbers' : List Float) (p i : ℕ) (s : ReadState lanes₀ numbers₀ lanes numbers p i) (inside : i < length ns) where
      pub text_inside : p + get_or ns i 0 ≤ length l
      text_inside = omega (arith, s.texts_left, total_turn ns i inside)

      module _ (w : Word) (z : Cx floats) (word-is : w ≡ word_taken n (take (p + get_or ns i 0 - p) (drop p l))) (number_is : z ≡ get_or (complexes xs) i no_number)
          (lw : LaysWord lanes (256 + i) w lanes') (ln : LaysNumber numbers (256 + i) z numbers') (sl : length lanes' ≡ length lanes) (sn : length numbers' ≡ length numbers) where
        abbrev first : Term
        first = term_taken n (record { text = take (get_or ns i 0) (drop p l); number = record { re = get_or xs (2 * i) nan; im = get_or xs (2 * i + 1) nan } })

        two : 2 * i + 1 < length xs
        two = omega (arith, fit.two)

        number_at : z ≡ record { re = get_or xs (2 * i) nan; im = get_or xs (2 * i + 1) nan }
        number_at =
            let e : i * 2 ≡ 2 * i = omega arith in
            number_is ∙ complexes_at xs i (omega (arith, fit.two)) ∙ ap (λ (m : ℕ). record { re = get_or xs m nan; im = get_or xs (m + 1) nan }) e

        row_is : row w z ≡ first
        row_is = onto_eq number_at (word-is ∙ ap (word_taken n) (part_is l p (get_or ns i 0) (p + get_or ns i 0) refl))

        pub read_next : ReadState lanes₀ numbers₀ lanes' numbers' (p + get_or ns i 0) (i + 1)
        read_next = record {
          lanes_same = sl ∙ s.lanes_same;
          numbers_same = sn ∙ s.numbers_same;
          high = omega arith;
          texts_left = omega (arith, s.texts_left, total_turn ns i inside);
          reads =
              ap (λ (t : List Term). t ++ left (i + 1) (p + get_or ns i 0))
              (operator_more i lanes lanes' numbers numbers' w z (omega (arith, s.lanes_same, room.lanes_long)) (omega (arith, s.numbers_same, room.numbers_long)) lw ln)
              ∙ append_assoc (operator_in i lanes numbers) (row w z ∷ []) (left (i + 1) (p + get_or ns i 0))
              ∙ ap (λ (t : Term). operator_in i lanes numbers ++ (t ∷ left (i + 1) (p + get_or ns i 0))) row_is
              ∙ ap (λ (t : List GivenTerm). operator_in i lanes numbers ++ map (term_taken n) t) (sym (term_turn ns l xs i p inside two))
              ∙ s.reads;
        }

    pub read_done : (lanes : List ℕ) (numbers : List Float) (p i : ℕ) → ReadState lanes₀ numbers₀ lanes numbers p i → length ns ≤ i → operator_in (length ns) lanes numbers ≡ operator_taken n ns l xs
    read_done lanes numbers p i s h =
        let e : length ns ≡ i = omega (arith, s.high) in
        ap (λ (m : ℕ). operator_in m lanes numbers) e
        ∙ sym (append-nil (operator_in i lanes numbers))
        ∙ ap (λ (t : List GivenTerm). operator_in i lanes numbers ++ map (term_taken n) t) (sym (term_end ns (drop p l) (complexes (drop (2 * i) xs)) i h))
        ∙ s.reads
