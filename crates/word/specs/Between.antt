-- SPDX-FileCopyrightText: 2026 The PPVM Authors
-- SPDX-License-Identifier: Apache-2.0

-- Contracts between functions: what laying a word leaves, where a word acts next, and which bits words have together.
use Rattle.std.specs.Prelude.{ℕ, ◌+◌, ◌<◌, ◌≤◌, ◌≡◌, List, leb, get_or, set, Bool, true, false, cond}
use Rattle.std.specs.Int.Bits.{bit_or}
use Rattle.word.specs.Count.{tabulate}
use Rattle.word.specs.Word.{lane_count, max_qubits, bit}
use Rattle.word.specs.declared.word.Word.{Word}
use Rattle.word.specs.Register.{acts_on}
use Rattle.word.specs.Flat.{words, lay_word}
use Rattle.word.specs.Order.{same}

-- what laying a word leaves: every lane, and so the list of words
pub record LaysWord (l : List ℕ) (i : ℕ) (w : Word) (after : List ℕ) : Type 0 where
  pub lanes : after ≡ lay_word l i w
  pub list : words after ≡ set (words l) i w

-- the digits at or above qubit n of a lane whose first qubit is `from`
abbrev pub DigitsFrom : ℕ → ℕ → ℕ → Type 0
DigitsFrom from n r = (k : ℕ) → k < 64 → bit r k ≡ cond (leb n (from + k)) 1 0

-- r is the first qubit at or after `from` at which it has one, and maxQubits where there is none
pub record NextQubit (w : Word) (from r : ℕ) : Type 0 where
  pub inside : r ≤ max_qubits
  pub found : r < max_qubits → (from ≤ r) × (acts_on w r ≡ true)
  pub before : (q : ℕ) → from ≤ q → q < r → acts_on w q ≡ false
  pub none : r ≡ max_qubits → (q : ℕ) → from ≤ q → acts_on w q ≡ false

-- the bits of both words
unfoldable pub join : Word → Word → Word
join u w = record {
  x = tabulate lane_count (λ k. bit_or (get_or u.x k 0) (get_or w.x k 0));
  z = tabulate lane_count (λ k. bit_or (get_or u.z k 0) (get_or w.z k 0));
}

-- does u have every bit of w
abbrev pub covers : Word → Word → Bool
covers u w = same (join u w) u
