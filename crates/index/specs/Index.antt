-- SPDX-FileCopyrightText: 2026 The PPVM Authors
-- SPDX-License-Identifier: Apache-2.0

-- Contracts between functions: the index. For each qubit a row of lanes, a bit for each item. An item is a list of words.
use Rattle.std.specs.Prelude.{◌≡◌, Bool, false, cond, ◌||◌, List, [], ◌∷◌, ℕ, zero, suc, ◌+◌, ◌-◌, ◌*◌, ◌/◌, ◌%◌, ◌<◌, min, max, eqb, get_or}
use Rattle.word.specs.Word.{bit}
use Rattle.word.specs.Register.{acts_on, share}
use Rattle.word.specs.declared.word.Word.{Word}

-- the lanes of a row for so many items: a bit for each, and at least one lane
abbrev pub row_lanes : ℕ → ℕ
row_lanes items = (items - 1) / 64 + 1

-- bit j % 64 of lane j / 64
unfoldable pub flag : List ℕ → ℕ → ℕ
flag lanes j = bit (get_or lanes (j / 64) 0) (j % 64)

-- the same bit of row q, where a row has so many lanes
unfoldable pub mark : ℕ → List ℕ → ℕ → ℕ → ℕ
mark row index q j = bit (get_or index (q * row + j / 64) 0) (j % 64)

abbrev pub digit : Bool → ℕ
digit b = cond b 1 0

-- 1 where a word acts on qubit q, else 0
unfoldable pub acts : Word → ℕ → ℕ
acts w q = digit (acts_on w q)

-- 1 where one of the words does
unfoldable pub acts_any : List Word → ℕ → ℕ
acts_any [] q = 0
acts_any (w ∷ W) q = max (acts w q) (acts_any W q)

-- does one of the words share a qubit with p
unfoldable pub shares_any : List Word → Word → Bool
shares_any [] p = false
shares_any (w ∷ W) p = share w p || shares_any W p

-- for each qubit q below n, bit j of row q is set exactly if one of the words of item j acts on q; past the last item no bit
-- is set
pub record Indexed (row n : ℕ) (items : List (List Word)) (index : List ℕ) : Type 0 where
  pub marks : (q j : ℕ) → q < n → j < row * 64 → mark row index q j ≡ acts_any (get_or items j []) q

-- the bits of item j in the rows below n are set where one of the words acts, and all others are as they were
pub record Marks (row n j : ℕ) (W : List Word) (index index' : List ℕ) : Type 0 where
  pub marks : (q i : ℕ) → q < n → i < row * 64 → mark row index' q i ≡ max (mark row index q i) (cond (eqb i j) (acts_any W q) 0)

-- bit j of the union of the rows below n at which f is 1
unfoldable pub unites : ℕ → (ℕ → ℕ) → ℕ → List ℕ → ℕ → ℕ
unites row f zero index j = 0
unites row f (suc n) index j = max (unites row f n index j) (min (f n) (mark row index n j))

-- the mask is the union of the rows of the qubits below n that p acts on
pub record United (row n : ℕ) (p : Word) (index mask : List ℕ) : Type 0 where
  pub flags : (j : ℕ) → j < row * 64 → flag mask j ≡ unites row (acts p) n index j
