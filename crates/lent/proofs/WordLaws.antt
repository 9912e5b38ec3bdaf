-- SPDX-FileCopyrightText: 2026 The PPVM Authors
-- SPDX-License-Identifier: Apache-2.0

-- Words of a lent list that were read and tested. Assumes nothing.
use mathlib.Core.Path.{◌≡◌, ap, ◌∙◌}
use mathlib.Core.Bool.{Bool, false}
use mathlib.Core.List.{List}
use Prim.Native.Nat.{ℕ, ◌/◌, ◌<◌}
use lib.ListN.{length, get_or}
use Rattle.word.specs.Word.{identity}
use Rattle.word.specs.Flat.{words, word_lanes}
use Rattle.word.specs.Register.{reaches}
use Rattle.word.specs.declared.word.Word.{Word}
use Rattle.lent.specs.Words.{outside_at}
use Rattle.lent.specs.Between.{AllInside}

-- a word that was read and tested
pub outside_at_lem : (lanes : List ℕ) (n k : ℕ) {w : Word} {b : Bool} → w ≡ get_or (words lanes) k identity → b ≡ reaches w n → b ≡ outside_at lanes n k
unfolding outside_at
outside_at_lem lanes n k e f = f ∙ ap (λ (v : Word). reaches v n) e

pub word_inside : (lanes : List ℕ) (n : ℕ) → AllInside lanes n → (k : ℕ) → k < length lanes / word_lanes → {w : Word} → w ≡ get_or (words lanes) k identity → reaches w n ≡ false
unfolding outside_at
word_inside lanes n a k h e = ap (λ (v : Word). reaches v n) e ∙ a k h
