-- SPDX-FileCopyrightText: 2026 The PPVM Authors
-- SPDX-License-Identifier: Apache-2.0

-- Appending listed words one by one, and the words that the basis then has. Assumes nothing.
use mathlib.Core.Path.{◌≡◌, refl, ap, ap₂, sym, ◌∙◌, subst⁻¹}
use mathlib.Core.Bool.{true, false}
use mathlib.Core.List.{List, [], ◌∷◌, ◌++◌, append-nil, append_assoc}
use Prim.Native.Nat.{ℕ, ◌+◌, ◌-◌, ◌*◌, ◌≤◌, ◌<◌}
use native.Mathlib.Omega.{arith}
use native.Mathlib.Numerals.{add-one}
use lib.Dec.{eqb}
use lib.Ieee.{Float}
use lib.ListN.{length, get_or, take, drop, replicate, take-append-drop}
use lib.Seq.{take-suc-set, drop-drop, length-take-le}
use borrow.Rule.Slice.PartMut.{put_mid}
use Rattle.word.specs.Word.{identity}
use Rattle.word.specs.Flat.{word_lanes, words, flat_lanes}
use Rattle.word.specs.declared.word.Word.{Word}
use Rattle.word.proofs.FlatLaws.{words_high, words_drop, lanes_front, lanes_append, Whole, whole_words, whole_take, whole_at, words_lanes, lay_drop}
use Rattle.number.specs.Floats.{float0}
use Rattle.keep.specs.Retained.{pick, flagged}
use Rattle.keep.specs.Admitted.{appended_lanes, appended_zeros, picked}
use Rattle.keep.proofs.PickLaws.{flagged_skips, flagged_takes, flagged_below, pick_skips, pick_takes, pick_length, whole_pick}
use Rattle.keep.proofs.FillLaws.{part_filled}
use Rattle.word.specs.Between.{LaysWord}
use Rattle.keep.specs.Between.{AdmitRoom}

-- after i listed words: those picked stand after the first len, up to at, and from at on nothing has changed
pub record Grown (len : ℕ) (list ks l₀ l : List ℕ) (at i : ℕ) : Type 0 where
  pub place : at ≡ len + flagged (take i ks)
  pub front : take at (words l) ≡ take len (words l₀) ++ picked i ks list
  pub back : drop (at * word_lanes) l ≡ drop (at * word_lanes) l₀
  pub long : length l ≡ length l₀

pub grown_start : (len : ℕ) (list ks l : List ℕ) → Grown len list ks l l len 0
unfolding flagged pick
grown_start len list [] l = record { place = omega arith; front = sym (append-nil (take len (words l))); back = refl; long = refl }
grown_start len list (k ∷ ks) l = record { place = omega arith; front = sym (append-nil (take len (words l))); back = refl; long = refl }

module _ (len count : ℕ) (list ks l₀ : List ℕ) (room : AdmitRoom len count list ks l₀) (l : List ℕ) (at i : ℕ) (g : Grown len list ks l₀ l at i) (h : i < count) where
  flag_here : i < length ks
  flag_here = omega (arith, room.flags)

  pub grown_skip : eqb (get_or ks i 0) 0 ≡ true → Grown len list ks l₀ l at (i + 1)
  grown_skip e = record {
    place = g.place ∙ ap (λ (n : ℕ). len + n) (sym (flagged_skips ks i flag_here e));
    front = g.front ∙ ap (λ (t : List Word). take len (words l₀) ++ t) (sym (pick_skips ks (words list) i flag_here e));
    back = g.back;
    long = g.long;
  }

  -- there is a place for the next
  pub grown_room : eqb (get_or ks i 0) 0 ≡ false → word_lanes * at + word_lanes ≤ length l
  grown_room e = omega (arith, room.places, g.place, g.long, flagged_below ks i count h flag_here e)

  pub grown_put : (w : Word) (l' : List ℕ) → eqb (get_or ks i 0) 0 ≡ false → w ≡ get_or (words list) i identity → LaysWord l at w l' → length l' ≡ length l → Grown len list ks l₀ l' (at + 1) (i + 1)
  grown_put w l' e f s same = record {
    place = omega (arith, g.place, flagged_takes ks i flag_here e);
    front =
        rw (s.list, add-one at)
        (take-suc-set (words l) at w (omega (arith, grown_room e, words_high l))
        ∙ ap (λ (t : List Word). t ++ (w ∷ [])) g.front
        ∙ append_assoc (take len (words l₀)) (picked i ks list) (w ∷ [])
        ∙ ap (λ (t : List Word). take len (words l₀) ++ t)
        (ap (λ (v : Word). picked i ks list ++ (v ∷ [])) f ∙ sym (pick_takes ks (words list) i identity flag_here (omega (arith, room.listed, words_high list)) e)));
    back =
        let z : at * word_lanes + word_lanes ≡ (at + 1) * word_lanes = omega arith in
        ap (drop ((at + 1) * word_lanes)) s.lanes
        ∙ lay_drop l at w ((at + 1) * word_lanes) (subst⁻¹ (λ (v : Word). Whole (v ∷ [])) f (whole_at i (words list) (whole_words list))) (omega arith)
        ∙ ap (λ (n : ℕ). drop n l) (sym z) ∙ sym (drop-drop word_lanes (at * word_lanes) l) ∙ ap (drop word_lanes) g.back ∙ drop-drop word_lanes (at * word_lanes) l₀ ∙ ap (λ (n : ℕ). drop n l₀) z;
    long = same ∙ g.long;
  }

module _ (len count : ℕ) (list ks l₀ : List ℕ) (room : AdmitRoom len count list ks l₀) where
  -- as many words as flags
  pub picked_length : length (picked count ks list) ≡ flagged (take count ks)
  picked_length =
      let n : length (take count (words list)) ≡ count = length-take-le count (words list) (omega (arith, room.listed, words_high list)) in
      pick_length ks (take count (words list)) (omega (arith, n, room.flags)) ∙ ap (λ (k : ℕ). flagged (take k ks)) n

  pub grown_done : (l : List ℕ) (at i : ℕ) → Grown len list ks l₀ l at i → i ≡ count → l ≡ appended_lanes len (picked count ks list) l₀
  grown_done l at i g all =
      let ws : List Word = picked count ks list in
      let front : take at (words l) ≡ take len (words l₀) ++ ws = g.front ∙ ap (λ (j : ℕ). take len (words l₀) ++ picked j ks list) all in
      let place : at ≡ len + flagged (take count ks) = g.place ∙ ap (λ (j : ℕ). len + flagged (take j ks)) all in
      let end : at * word_lanes ≡ word_lanes * (len + length ws) = omega (arith, place, picked_length) in
      let start : len * word_lanes ≡ word_lanes * len = omega arith in
      sym (take-append-drop (at * word_lanes) l)
      ∙ ap₂ (λ (s t : List ℕ). s ++ t)
      (lanes_front l at (at * word_lanes) refl (omega (arith, place, room.places, g.long))
      ∙ ap flat_lanes front
      ∙ lanes_append (take len (words l₀)) ws
      ∙ ap (λ (t : List ℕ). t ++ flat_lanes ws) (sym (lanes_front l₀ len (len * word_lanes) refl (omega (arith, room.places))) ∙ ap (λ (n : ℕ). take n l₀) start))
      (g.back ∙ ap (λ (n : ℕ). drop n l₀) end)
      ∙ append_assoc (take (word_lanes * len) l₀) (flat_lanes ws) (drop (word_lanes * (len + length ws)) l₀)

-- the numbers, filled from len up to the new length
pub zeros_done : (len n end : ℕ) (numbers y : List Float) → end ≡ len + n → len + n ≤ length numbers
    → y ≡ replicate (length (take (end - len) (drop len numbers))) float0 → put_mid len (end - len) numbers y ≡ appended_zeros len n numbers
zeros_done len n end numbers y e h f =
    let k : end - len ≡ n = omega arith in
    part_filled float0 len numbers y (end - len) (omega arith) f
    ∙ ap (λ (m : ℕ). take len numbers ++ (replicate m float0 ++ drop (len + m) numbers)) k

-- the words of the basis: the first len, those appended, and what stood past them
appended_words : (len : ℕ) (ws : List Word) (lanes : List ℕ) → Whole ws → word_lanes * (len + length ws) ≤ length lanes
    → words (appended_lanes len ws lanes) ≡ take len (words lanes) ++ (ws ++ drop (len + length ws) (words lanes))
appended_words len ws lanes h room =
    let start : word_lanes * len ≡ len * word_lanes = omega arith in
    ap (λ (t : List ℕ). words (t ++ (flat_lanes ws ++ drop (word_lanes * (len + length ws)) lanes))) (lanes_front lanes len (word_lanes * len) start (omega arith))
    ∙ words_lanes (take len (words lanes)) (flat_lanes ws ++ drop (word_lanes * (len + length ws)) lanes) (whole_take len (words lanes) (whole_words lanes))
    ∙ ap (λ (t : List Word). take len (words lanes) ++ t) (words_lanes ws (drop (word_lanes * (len + length ws)) lanes) h ∙ ap (λ (t : List Word). ws ++ t) (words_drop (len + length ws) lanes))

pub admitted_words : (len count : ℕ) (list kept lanes : List ℕ) → AdmitRoom len count list kept lanes
    → words (appended_lanes len (picked count kept list) lanes) ≡ take len (words lanes) ++ (picked count kept list ++ drop (len + flagged (take count kept)) (words lanes))
admitted_words len count list kept lanes room =
    let n = picked_length len count list kept lanes room in
    appended_words len (picked count kept list) lanes (whole_pick kept (take count (words list)) (whole_take count (words list) (whole_words list))) (omega (arith, n, room.places))
    ∙ ap (λ (k : ℕ). take len (words lanes) ++ (picked count kept list ++ drop (len + k) (words lanes))) n
