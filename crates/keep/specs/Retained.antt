-- SPDX-FileCopyrightText: 2026 The PPVM Authors
-- SPDX-License-Identifier: Apache-2.0

-- Entries kept by flags, in their order: a flag that is not 0 keeps the entry at its position.
use Rattle.std.specs.Prelude.{ℕ, suc, ◌-◌, ◌*◌, cond, List, [], ◌∷◌, ◌++◌, eqb, Float, length, take, replicate}
use Rattle.word.specs.Flat.{word_lanes, words, flat_lanes}
use Rattle.number.specs.Floats.{float0}

-- the elements whose flag is not 0
unfoldable pub pick : {A : Type 0} → List ℕ → List A → List A
pick [] l = []
pick (k ∷ ks) [] = []
pick (k ∷ ks) (a ∷ l) = cond (eqb k 0) (pick ks l) (a ∷ pick ks l)

-- how many flags are not 0
unfoldable pub flagged : List ℕ → ℕ
flagged [] = 0
flagged (k ∷ ks) = cond (eqb k 0) (flagged ks) (suc (flagged ks))

-- what stays of the first len words and of the first len numbers; every place past them is 0
abbrev pub retained_lanes : ℕ → List ℕ → List ℕ → List ℕ
retained_lanes len kept lanes = flat_lanes (pick kept (take len (words lanes))) ++ replicate (length lanes - word_lanes * flagged (take len kept)) 0

abbrev pub retained_numbers : ℕ → List ℕ → List Float → List Float
retained_numbers len kept numbers = pick kept (take len numbers) ++ replicate (length numbers - flagged (take len kept)) float0
