-- SPDX-FileCopyrightText: 2026 The PPVM Authors
-- SPDX-License-Identifier: Apache-2.0

-- Contracts between functions: what the functions that choose, retain and append ask for and leave.
use Rattle.std.specs.Prelude.{ℕ, zero, suc, ◌*◌, ◌+◌, ◌<◌, ◌≤◌, ◌≡◌, cond, List, [], ◌∷◌, ◌++◌, eqb, Float, length, get_or, take}
use Rattle.word.specs.Flat.{word_lanes}
use Rattle.keep.specs.Retained.{flagged, retained_lanes, retained_numbers}
use Rattle.keep.specs.Admitted.{appended_lanes, appended_zeros, picked}

-- the positions below n whose flag is 0, in turn; and all of them
unfoldable pub unflagged_to : List ℕ → ℕ → List ℕ
unflagged_to ks zero = []
unflagged_to ks (suc n) = unflagged_to ks n ++ cond (eqb (get_or ks n 0) 0) (n ∷ []) []

abbrev pub unflagged : List ℕ → List ℕ
unflagged ks = unflagged_to ks (length ks)

-- what `retain_in_place` answers and leaves
pub record Retains (len : ℕ) (kept lanes : List ℕ) (numbers : List Float) (r : ℕ) (lanes' : List ℕ) (numbers' : List Float) : Type 0 where
  pub answers : r ≡ flagged (take len kept)
  pub words_left : lanes' ≡ retained_lanes len kept lanes
  pub numbers_left : numbers' ≡ retained_numbers len kept numbers

-- every position listed is below n
pub record Below (n : ℕ) (order : List ℕ) : Type 0 where
  pub below : (i : ℕ) → i < length order → get_or order i 0 < n

-- how often p is listed
unfoldable pub occurrences : ℕ → List ℕ → ℕ
occurrences p [] = 0
occurrences p (q ∷ ps) = cond (eqb q p) 1 0 + occurrences p ps

-- the positions below n are listed, each once, and nothing else is
pub record EachOnce (n : ℕ) (order : List ℕ) : Type 0 where
  pub all_below : Below n order
  pub once : (p : ℕ) → p < n → occurrences p order ≡ 1

-- as many words as the list is said to have, and places for those that come in
pub record AdmitRoom (len count : ℕ) (list kept lanes : List ℕ) : Type 0 where
  pub listed : word_lanes * count ≤ length list
  pub flags : count ≤ length kept
  pub places : word_lanes * (len + flagged (take count kept)) ≤ length lanes

-- what `append_chosen` answers and leaves
pub record Admits (len count : ℕ) (list kept lanes : List ℕ) (numbers : List Float) (r : ℕ) (lanes' : List ℕ) (numbers' : List Float) : Type 0 where
  pub answers : r ≡ len + flagged (take count kept)
  pub words_left : lanes' ≡ appended_lanes len (picked count kept list) lanes
  pub numbers_left : numbers' ≡ appended_zeros len (flagged (take count kept)) numbers
