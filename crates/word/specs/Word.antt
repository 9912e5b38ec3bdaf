-- SPDX-FileCopyrightText: 2026 The PPVM Authors
-- SPDX-License-Identifier: Apache-2.0

-- A word by the letters of its qubits. Qubit q is bit q mod 64 of lane q div 64; X sets x, Z sets z, Y both.
use Rattle.std.specs.Prelude.{ℕ, ◌+◌, ◌*◌, ◌/◌, ◌%◌, ◌^◌, ◌<◌, List, ◌≡◌, get_or, length, replicate}
use Rattle.word.specs.Count.{sum_to, tabulate}
use Rattle.word.specs.declared.word.Word.{Word}

-- the lanes of a word's x, and as many of its z, and the qubits that they hold
abbrev pub lane_count : ℕ
lane_count = 4

abbrev pub max_qubits : ℕ
max_qubits = 64 * lane_count

-- bit k of n
unfoldable pub bit : ℕ → ℕ → ℕ
bit n k = n / 2 ^ k % 2

-- the letter of qubit q, over any number of lanes
unfoldable pub letter_in : List ℕ → List ℕ → ℕ → ℕ
letter_in xs zs q = bit (get_or xs (q / 64) 0) (q % 64) + 2 * bit (get_or zs (q / 64) 0) (q % 64)

-- n lanes, with the low bit of f q as the bit of qubit q
unfoldable pub lanes_of : ℕ → (ℕ → ℕ) → List ℕ
lanes_of n f = tabulate n (λ i. sum_to 64 (λ k. f (64 * i + k) % 2 * 2 ^ k))

-- the letter of qubit q in a word
abbrev pub letter_at : Word → ℕ → ℕ
letter_at w q = letter_in w.x w.z q

-- the word that has the letter f q at each qubit q
unfoldable pub word_of : (ℕ → ℕ) → Word
word_of f = record { x = lanes_of lane_count f; z = lanes_of lane_count (λ q. f q / 2) }

-- as many lanes as a word has, each of 64 bits: what every word of a program is
pub record Sound (w : Word) : Type 0 where
  pub x_lanes : length w.x ≡ lane_count
  pub z_lanes : length w.z ≡ lane_count
  pub x_fits : (i : ℕ) → get_or w.x i 0 < 2 ^ 64
  pub z_fits : (i : ℕ) → get_or w.z i 0 < 2 ^ 64

-- I at every qubit
abbrev pub identity : Word
identity = record { x = replicate lane_count 0; z = replicate lane_count 0 }
