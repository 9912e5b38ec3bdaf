-- SPDX-FileCopyrightText: 2026 The PPVM Authors
-- SPDX-License-Identifier: Apache-2.0

-- Words appended to a lent basis, each with coefficient 0: the listed ones whose flag is not 0.
use Rattle.std.specs.Prelude.{ℕ, ◌+◌, ◌*◌, List, ◌++◌, Float, length, take, drop, replicate}
use Rattle.word.specs.Flat.{word_lanes, words, flat_lanes}
use Rattle.word.specs.declared.word.Word.{Word}
use Rattle.number.specs.Floats.{float0}
use Rattle.keep.specs.Retained.{pick}

-- the words ws after the first len, and n zeros; the other places stay
abbrev pub appended_lanes : ℕ → List Word → List ℕ → List ℕ
appended_lanes len ws lanes = take (word_lanes * len) lanes ++ (flat_lanes ws ++ drop (word_lanes * (len + length ws)) lanes)

abbrev pub appended_zeros : ℕ → ℕ → List Float → List Float
appended_zeros len n numbers = take len numbers ++ (replicate n float0 ++ drop (len + n) numbers)

-- the first count listed words whose flag is not 0
abbrev pub picked : ℕ → List ℕ → List ℕ → List Word
picked count kept list = pick kept (take count (words list))
