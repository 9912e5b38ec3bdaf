-- SPDX-FileCopyrightText: 2026 The PPVM Authors
-- SPDX-License-Identifier: Apache-2.0

-- The first elements of a list laid over those of another. Assumes nothing.
use mathlib.Core.Path.{◌≡◌, sym, ap, ◌∙◌}
use mathlib.Core.List.{List, ◌++◌}
use Prim.Native.Nat.{ℕ, ◌*◌, ◌≤◌}
use lib.ListN.{length, take, drop}
use lib.Seq.{take_at, length-take-le}
use Rattle.word.specs.Flat.{words, word_lanes}
use Rattle.word.proofs.FlatLaws.{words_take}

-- the first words of a copy, and its first numbers
pub copied_words : (len : ℕ) (lanes table table₁ : List ℕ) → word_lanes * len ≤ length lanes → table₁ ≡ take (word_lanes * len) lanes ++ drop (word_lanes * len) table → take len (words table₁) ≡ take len (words lanes)
copied_words len lanes table table₁ long e =
    let p : ℕ = word_lanes * len in
    sym (words_take len table₁)
    ∙ ap words (ap (take p) e ∙ take_at (take p lanes) (drop p table) p (length-take-le p lanes long))
    ∙ words_take len lanes

pub copied_numbers : {A : Type 0} (len : ℕ) (source table table₁ : List A) → len ≤ length source → table₁ ≡ take len source ++ drop len table → take len table₁ ≡ take len source
copied_numbers len source table table₁ long e = ap (take len) e ∙ take_at (take len source) (drop len table) len (length-take-le len source long)
