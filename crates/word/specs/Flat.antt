-- SPDX-FileCopyrightText: 2026 The PPVM Authors
-- SPDX-License-Identifier: Apache-2.0

-- The words that a flat list of lanes holds: x lanes, then z lanes, for each word in turn.
use Rattle.std.specs.Prelude.{ℕ, suc, ◌+◌, ◌*◌, ◌/◌, List, [], ◌∷◌, ◌++◌, length, get_or, set}
use Rattle.word.specs.Count.{tabulate}
use Rattle.word.specs.Word.{lane_count}
use Rattle.word.specs.declared.word.Word.{Word}

-- the width of a word: its lanes, those of x and those of z
abbrev pub word_lanes : ℕ
word_lanes = 2 * lane_count

-- the word at place i
unfoldable pub word_at : List ℕ → ℕ → Word
word_at l i = record {
  x = tabulate lane_count (λ k. get_or l (i * word_lanes + k) 0);
  z = tabulate lane_count (λ k. get_or l (i * word_lanes + (lane_count + k)) 0);
}

-- as many words as are whole
unfoldable pub words : List ℕ → List Word
words l = tabulate (length l / word_lanes) (word_at l)

-- the lanes of words, one word after the other
unfoldable pub flat_lanes : List Word → List ℕ
flat_lanes [] = []
flat_lanes (w ∷ ws) = (w.x ++ w.z) ++ flat_lanes ws

-- lanes laid from place p on
unfoldable pub lay : List ℕ → ℕ → List ℕ → List ℕ
lay l p [] = l
lay l p (a ∷ rest) = lay (set l p a) (suc p) rest

-- the lanes with a word laid at place i
abbrev pub lay_word : List ℕ → ℕ → Word → List ℕ
lay_word l i w = lay l (i * word_lanes) (w.x ++ w.z)
