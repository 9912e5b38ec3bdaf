-- SPDX-FileCopyrightText: 2026 The PPVM Authors
-- SPDX-License-Identifier: Apache-2.0

-- Contracts between functions: each word has a slot; heads has, for each slot, the last place whose word has it, and nexts, for each place, the place before it whose word has the same slot. A place is stored as one more, and 0 is none.
use Rattle.std.specs.Prelude.{ℕ, zero, suc, ◌%◌, ◌<◌, ◌≤◌, ◌≡◌, cond, List, eqb, length, get_or}
use Rattle.word.specs.Hash.{word_hash}
use Rattle.word.specs.Word.{identity}
use Rattle.word.specs.declared.word.Word.{Word}

-- the slot of a word, of so many
unfoldable pub slot_of : ℕ → Word → ℕ
slot_of slots w = word_hash w % slots

-- one more than the last of the first b places whose word has slot s, or 0
unfoldable pub last_in : ℕ → ℕ → List Word → ℕ → ℕ
last_in slots s ws zero = 0
last_in slots s ws (suc b) = cond (eqb (slot_of slots (get_or ws b identity)) s) (suc b) (last_in slots s ws b)

pub record Slotted (ws : List Word) (heads nexts : List ℕ) : Type 0 where
  pub each : length nexts ≡ length ws
  pub enough : length ws ≤ length heads
  pub heads_are : (s : ℕ) → s < length heads → get_or heads s 0 ≡ last_in (length heads) s ws (length ws)
  pub nexts_are : (i : ℕ) → i < length ws → get_or nexts i 0 ≡ last_in (length heads) (slot_of (length heads) (get_or ws i identity)) ws i
