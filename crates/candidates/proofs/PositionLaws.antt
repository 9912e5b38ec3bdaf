-- SPDX-FileCopyrightText: 2026 The PPVM Authors
-- SPDX-License-Identifier: Apache-2.0

-- The rows at positions in word order are the rows put into word order, where each word stands once. Assumes nothing.
use mathlib.Core.Path.{◌≡◌, refl, ap, sym, ◌∙◌}
use mathlib.Core.List.{List, [], ◌∷◌, map}
use mathlib.Core.Bool.{false}
use Prim.Native.Nat.{ℕ, zero, suc, ◌≤◌}
use native.Mathlib.Omega.{arith}
use lib.Ieee.{Float, nan}
use lib.ListN.{length, get_or, take, length-map}
use lib.Seq.{take-suc, take_all}
use Rattle.word.specs.Order.{before}
use Rattle.word.specs.Word.{identity}
use Rattle.word.specs.declared.word.Word.{Word}
use Rattle.number.specs.Floats.{floats}
use Rattle.order.specs.Merge.{positions}
use Rattle.order.specs.Between.{All, word_before, by_word}
use Rattle.order.proofs.OrderLaws.{Pairs, ordered_sorted}
use Rattle.order.proofs.PlaceLaws.{word_order}
use Rattle.candidates.specs.Sums.{Row, row, put_over, put_all}
use Rattle.candidates.specs.Tables.{Rows, rows}
use Rattle.candidates.specs.Between.{latest, in_word_order, row_at}
use Rattle.candidates.proofs.PutLaws.{strict, InOrder, all_append, law}
use Rattle.candidates.proofs.RowLaws.{no_row, rows_at, rows_long, rows_few}
use Rattle.candidates.proofs.WordOrderLaws.{Each, Falls, order_own}

abbrev word_of : Row Word Float → Word
word_of r = r.word

abbrev sum_of : Row Word Float → Float
sum_of r = r.sum

module _ (ws : List Word) (xs : List Float) where
  abbrev key : ℕ → Word
  key p = get_or ws p identity

  abbrev val : ℕ → Float
  val p = get_or xs p nan

  abbrev at : ℕ → Row Word Float
  at = row_at ws xs

  abbrev lay_at : List ℕ → Rows → Rows
  lay_at = put_all before latest floats.nought key val

  abbrev lay : Rows → Rows → Rows
  lay = put_all before latest floats.nought word_of sum_of

  at_rows : (l : List ℕ) (t : Rows) → lay_at l t ≡ lay (map at l) t
  unfolding put_all
  at_rows [] t = refl
  at_rows (p ∷ l) t = at_rows l (put_over before latest floats.nought (key p) (val p) t)

  falls_one : (x : ℕ) (l : List ℕ) → All (λ y. word_before ws y x ≡ false) l → Each (λ (q : Row Word Float). before q.word (key x) ≡ false) (map at l)
  unfolding All Each word_before
  falls_one x [] a = tt
  falls_one x (y ∷ l) a = (a.0, falls_one x l a.1)

  falls_all : (l : List ℕ) → InOrder (word_before ws) l → Falls before floats.nought strict (map at l)
  unfolding Pairs Falls
  falls_all [] a = tt
  falls_all (x ∷ l) a = (falls_one x l a.0, falls_all l a.1)

  module _ (h : length ws ≤ length xs) where
    -- positions one after another are the rows one after another
    in_turn : (m : ℕ) → m ≤ length ws → (t : Rows) → lay_at (positions m) t ≡ lay (take m (rows ws xs)) t
    unfolding positions put_all
    in_turn zero l t = refl
    in_turn (suc m) l t =
        let e : get_or (rows ws xs) m no_row ≡ row (key m) (val m) = rows_at ws xs m (omega arith) (omega arith) in
        let n : length ws ≤ length (rows ws xs) = rows_long ws xs (length ws) (omega arith) h in
        all_append before latest floats.nought strict key val (positions m) (m ∷ []) t
        ∙ ap (put_over before latest floats.nought (key m) (val m)) (in_turn m (omega arith) t)
        ∙ sym (rw (take-suc (rows ws xs) m no_row (omega arith), e)
        (all_append before latest floats.nought strict word_of sum_of (take m (rows ws xs)) (row (key m) (val m) ∷ []) t))

    pub rows_by_word : (order : List ℕ) → order ≡ by_word ws → length (in_word_order (rows ws xs)) ≡ length order → in_word_order (rows ws xs) ≡ map (row_at ws xs) order
    unfolding in_word_order word_before
    rows_by_word order e n =
        let sorted : InOrder (word_before ws) order = rw e (ordered_sorted (word_before ws) (word_order ws) (positions (length ws))) in
        let all : lay (rows ws xs) [] ≡ lay_at order [] =
        ap (λ (l : Rows). lay l []) (sym (take_all (length ws) (rows ws xs) (rows_few ws xs)))
        ∙ sym (in_turn (length ws) (omega arith) [])
        ∙ law before latest floats.nought strict key val (positions (length ws)) []
        ∙ ap (λ (l : List ℕ). lay_at l []) (sym e) in
        let own : lay (rows ws xs) [] ≡ lay (map at order) [] = all ∙ at_rows order [] in
        own ∙ order_own before floats.nought strict (map at order) (falls_all order sorted) (sym (ap length own) ∙ n ∙ sym (length-map order at))
