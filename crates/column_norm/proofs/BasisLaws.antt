-- SPDX-FileCopyrightText: 2026 The PPVM Authors
-- SPDX-License-Identifier: Apache-2.0

-- The slots of the first words of a lent basis, laid in the first places of a lent table. Assumes nothing.
use mathlib.Core.Path.{◌≡◌, sym, ap, ◌∙◌}
use mathlib.Core.Bool.{Bool}
use mathlib.Core.List.{List, ◌++◌}
use Prim.Native.Nat.{ℕ, ◌*◌, ◌≤◌}
use native.Mathlib.Omega.{arith}
use lib.ListN.{length, take, drop}
use lib.Seq.{length-take-le, length_front, take-append_seam}
use Rattle.word.specs.Flat.{words, word_lanes}
use Rattle.word.specs.declared.word.Word.{Word}
use Rattle.word.proofs.FlatLaws.{words_take, words_high}
use Rattle.order.specs.Places.{is_among}
use Rattle.slots.specs.Between.{Slotted}
use Rattle.column_norm.specs.Between.{BasisSlots}

module _ (lanes : List ℕ) (len : ℕ) where
  pub first_words : words (take (len * word_lanes) lanes) ≡ take len (words lanes)
  first_words = let e : len * word_lanes ≡ word_lanes * len = omega arith in ap (λ (k : ℕ). words (take k lanes)) e ∙ words_take len lanes

  module _ (long : word_lanes * len ≤ length lanes) where
    lanes_taken : length (take (len * word_lanes) lanes) ≡ len * word_lanes
    lanes_taken = length-take-le (len * word_lanes) lanes (omega (arith, long))

    pub slots_asked : (heads nexts : List ℕ) → len ≤ length heads → len ≤ length nexts
        → (word_lanes * length (take len nexts) ≡ length (take (len * word_lanes) lanes)) × (length (take len nexts) ≤ length heads)
    slots_asked heads nexts hh hn = let k = length-take-le len nexts hn in (omega (arith, k, lanes_taken), omega (arith, k, hh))

    -- what was laid in the first places of nexts
    pub slots_laid : (nexts : List ℕ) → len ≤ length nexts → (heads part : List ℕ) → Slotted (words (take (len * word_lanes) lanes)) heads part → BasisSlots lanes len heads (part ++ drop len nexts)
    slots_laid nexts hn heads part s =
        let n : length (take len (words lanes)) ≡ len = length-take-le len (words lanes) (omega (arith, words_high lanes, long)) in
        let e : length part ≡ len = s.each ∙ ap length first_words ∙ n in
        let k : length part ≡ length (take len nexts) = omega (arith, e, length-take-le len nexts hn) in
        let seam : take len (part ++ drop len nexts) ≡ part = ap (λ (j : ℕ). take j (part ++ drop len nexts)) (sym e) ∙ take-append_seam part (drop len nexts) in
        record {
          lanes_long = long;
          nexts_long = omega (arith, hn, length_front nexts part len k);
          slots = rw seam (rw first_words at s);
        }

  pub slots_read : (heads nexts : List ℕ) → BasisSlots lanes len heads nexts → Slotted (words (take (len * word_lanes) lanes)) heads (take len nexts)
  slots_read heads nexts s = rw first_words s.slots

  pub among_first : (w : Word) (r : Bool) → r ≡ is_among w (words (take (len * word_lanes) lanes)) → r ≡ is_among w (take len (words lanes))
  among_first w r e = e ∙ ap (is_among w) first_words
