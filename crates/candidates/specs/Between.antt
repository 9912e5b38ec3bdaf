-- SPDX-FileCopyrightText: 2026 The PPVM Authors
-- SPDX-License-Identifier: Apache-2.0

-- Contracts between functions: candidates that stand in the order in which they came, found by slots; what putting one leaves, which of them stay, and which sum is the first in word order that is not finite.
use Rattle.std.specs.Prelude.{ℕ, ◌*◌, ◌≤◌, ◌<◌, ◌≡◌, Bool, false, not, ◌&&◌, ◌||◌, cond, List, [], ◌∷◌, Float, length, get_or, take, Option, Some, None}
use Rattle.std.specs.Float.{nan}
use Rattle.std.specs.Float.Ieee.{lt}
use Rattle.word.specs.Flat.{words, word_lanes}
use Rattle.slots.specs.Between.{Slotted}
use Rattle.word.specs.Order.{before}
use Rattle.word.specs.Word.{identity}
use Rattle.word.specs.declared.word.Word.{Word}
use Rattle.number.specs.Floats.{floats, magnitude, is_finite}
use Rattle.candidates.specs.Sums.{Row, row, put_all}
use Rattle.candidates.specs.Tables.{Rows, rows, candidate_rows}

-- rows in word order, of equal words the last
abbrev pub latest : Float → Float → Float
latest s v = v

unfoldable pub in_word_order : Rows → Rows
in_word_order U = put_all before latest floats.nought (λ (r : Row Word Float). r.word) (λ (r : Row Word Float). r.sum) U []

-- n rows of so many places, each word once, with the slots of their words
pub record Standing (room n : ℕ) (lanes : List ℕ) (sums : List Float) (heads nexts : List ℕ) : Type 0 where
  pub lanes_long : word_lanes * room ≤ length lanes
  pub sums_long : room ≤ length sums
  pub heads_long : room ≤ length heads
  pub nexts_long : room ≤ length nexts
  pub inside : n ≤ room
  pub slots : Slotted (take n (words lanes)) heads (take n nexts)
  pub once : length (in_word_order (candidate_rows n lanes sums)) ≡ n

-- how many rows stand, which in word order are T; or that T is more than there are places for
pub record Puts (room : ℕ) (T : Rows) (lanes : List ℕ) (sums : List Float) (heads nexts : List ℕ) (r : Option ℕ) : Type 0 where
  pub held : (m : ℕ) → r ≡ Some m → Standing room m lanes sums heads nexts × (in_word_order (candidate_rows m lanes sums) ≡ T)
  pub full : r ≡ None → room < length T

-- ---- the room rule and 14 on rows that stand in any order
-- those that pass a test, in their order
unfoldable pub those : {A : Type 0} → (A → Bool) → List A → List A
those p [] = []
those p (a ∷ l) = cond (p a) (a ∷ those p l) (those p l)

-- the row at a position
abbrev pub row_at : List Word → List Float → ℕ → Row Word Float
row_at ws xs p = row (get_or ws p identity) (get_or xs p nan)

-- the first goes ahead of the second: it is larger, or neither is and its word is before
unfoldable pub goes_ahead : Row Word Float → Row Word Float → Bool
goes_ahead q r = lt (magnitude r.sum) (magnitude q.sum) || (not (lt (magnitude q.sum) (magnitude r.sum)) && before q.word r.word)

-- what does not go behind the last row to stay
unfoldable pub stays_beside : Row Word Float → Row Word Float → Bool
stays_beside last r = not (goes_ahead last r)

-- a row beside which so many stay, itself among them
pub record PivotOf (room : ℕ) (ws : List Word) (xs : List Float) (q : ℕ) : Type 0 where
  pub inside : q < length xs
  pub count : length (those (stays_beside (row_at ws xs q)) (rows ws xs)) ≡ room

-- what `keep_largest` answers and leaves: the rows that stay beside such a one
pub record CutTo (room : ℕ) (ws : List Word) (xs : List Float) (r : ℕ) (lanes : List ℕ) (sums : List Float) : Type 0 where
  pub last : ℕ
  pub pivot : PivotOf room ws xs last
  pub few : r ≤ length xs
  pub left : candidate_rows r lanes sums ≡ those (stays_beside (row_at ws xs last)) (rows ws xs)

-- a row whose sum is not finite, and whose word is the lowest of such rows
pub record LowestBad (n : ℕ) (ws : List Word) (xs : List Float) (q : ℕ) : Type 0 where
  pub inside : q < n
  pub bad : is_finite (get_or xs q nan) ≡ false
  pub lowest : (i : ℕ) → i < n → is_finite (get_or xs i nan) ≡ false → before (get_or ws i identity) (get_or ws q identity) ≡ false

-- how many words are before that one
pub record BadPlace (n : ℕ) (ws : List Word) (xs : List Float) (r : ℕ) : Type 0 where
  pub at : ℕ
  pub lowest : LowestBad n ws xs at
  pub count : r ≡ length (those (λ (v : Word). before v (get_or ws at identity)) ws)
