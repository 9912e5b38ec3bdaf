-- SPDX-FileCopyrightText: 2026 The PPVM Authors
-- SPDX-License-Identifier: Apache-2.0

-- What is left once all entries have been looked at, and the words in it. Assumes nothing.
use mathlib.Core.Path.{◌≡◌, refl, ap, ◌∙◌}
use mathlib.Core.List.{List, ◌++◌}
use Prim.Native.Nat.{ℕ, ◌-◌, ◌*◌, ◌/◌, ◌≤◌}
use native.Mathlib.Omega.{arith}
use lib.Ieee.{Float}
use lib.ListN.{length, take, drop, replicate}
use borrow.Rule.Slice.PartMut.{put_mid}
use Rattle.word.specs.Word.{identity}
use Rattle.word.specs.Flat.{word_lanes, words, flat_lanes}
use Rattle.word.specs.declared.word.Word.{Word}
use Rattle.word.proofs.FlatLaws.{lanes_front, whole_words, whole_take, words_lanes, words_zero}
use Rattle.number.specs.Floats.{float0}
use Rattle.keep.specs.Retained.{pick, flagged, retained_lanes, retained_numbers}
use Rattle.keep.proofs.MoveLaws.{Moved}
use Rattle.keep.proofs.PickLaws.{whole_pick}
use Rattle.keep.proofs.FillLaws.{rest_filled}

module _ (ks : List ℕ) (n i len : ℕ) (all : i ≡ len) (count : n ≡ flagged (take i ks)) where
  pub retained_count : n ≡ flagged (take len ks)
  retained_count = count ∙ ap (λ (j : ℕ). flagged (take j ks)) all

  pub lanes_done : (lanes₀ lanes y : List ℕ) → Moved ks (words lanes₀) (words lanes) n i → length lanes ≡ length lanes₀ → word_lanes * len ≤ length lanes₀
      → y ≡ replicate (length (take (length lanes - n * word_lanes) (drop (n * word_lanes) lanes))) 0 → put_mid (n * word_lanes) (length lanes - n * word_lanes) lanes y ≡ retained_lanes len ks lanes₀
  lanes_done lanes₀ lanes y m long room e =
      let in-lanes : n * word_lanes ≤ length lanes = omega (arith, m.few, all, long, room) in
      let front : take (n * word_lanes) lanes ≡ flat_lanes (pick ks (take i (words lanes₀))) = lanes_front lanes n (n * word_lanes) refl in-lanes ∙ ap flat_lanes m.front in
      let rest : length lanes - n * word_lanes ≡ length lanes₀ - word_lanes * flagged (take len ks) = omega (arith, long, retained_count) in
      rest_filled 0 (n * word_lanes) lanes y in-lanes e ∙ rw (front, rest, all)

  pub numbers_done : (l₀ l y : List Float) → Moved ks l₀ l n i → len ≤ length l₀
      → y ≡ replicate (length (take (length l - n) (drop n l))) float0 → put_mid n (length l - n) l y ≡ retained_numbers len ks l₀
  numbers_done l₀ l y m room e =
      let rest : length l - n ≡ length l₀ - flagged (take len ks) = omega (arith, m.long, retained_count) in
      rest_filled float0 n l y (omega (arith, m.few, all, m.long, room)) e ∙ rw (m.front, rest, all)

-- the words left: those kept, then as many I as there are whole words of 0
pub retained_words : (len : ℕ) (kept lanes : List ℕ)
    → words (retained_lanes len kept lanes) ≡ pick kept (take len (words lanes)) ++ replicate ((length lanes - word_lanes * flagged (take len kept)) / word_lanes) identity
retained_words len kept lanes =
    let ws : List Word = pick kept (take len (words lanes)) in
    let k : ℕ = length lanes - word_lanes * flagged (take len kept) in
    words_lanes ws (replicate k 0) (whole_pick kept (take len (words lanes)) (whole_take len (words lanes) (whole_words lanes)))
    ∙ ap (λ (t : List Word). ws ++ t) (words_zero k)
