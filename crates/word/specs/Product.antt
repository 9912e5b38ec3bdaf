-- SPDX-FileCopyrightText: 2026 The PPVM Authors
-- SPDX-License-Identifier: Apache-2.0

-- The product of two words, i^phase times a word: letters by the letter table, phases summed over the qubits.
use Rattle.std.specs.Prelude.{ℕ, zero, suc, ◌%◌, Bool, List, eqb, Float}
use Rattle.std.specs.Float.{binary64}
use Rattle.std.specs.Float.Ieee.{of_bits, neg}
use Rattle.word.specs.Count.{sum_to}
use Rattle.word.specs.Letter.{mul_letter, mul_phase}
use Rattle.word.specs.Word.{max_qubits, letter_in, letter_at, word_of}
use Rattle.word.specs.declared.word.Word.{Word}
use Rattle.word.specs.declared.algebra.Phased.{Phased}
use Rattle.word.specs.declared.algebra.CommProduct.{CommProduct}

-- the phases of the first n qubits, added up, over any number of lanes
unfoldable pub phase_sum : ℕ → List ℕ → List ℕ → List ℕ → List ℕ → ℕ
phase_sum n xs zs us vs = sum_to n (λ q. mul_phase (letter_in xs zs q) (letter_in us vs q))

unfoldable pub mul : Word → Word → Word
mul p q = word_of (λ k. mul_letter (letter_at p k) (letter_at q k))

unfoldable pub phase : Word → Word → ℕ
phase p q = phase_sum max_qubits p.x p.z q.x q.z % 4

abbrev pub product : Word → Word → Phased
product p q = record { word = mul p q; phase = phase p q }

-- two words anticommute exactly if the phase is odd
unfoldable pub anti_commute : Word → Word → Bool
anti_commute p q = eqb (phase p q % 2) 1

-- the factor of i times the commutator: −2 at phase 1, +2 at phase 3, else none
abbrev two : Float
two = of_bits binary64 0x4000_0000_0000_0000

abbrev pub factor : ℕ → Float
factor zero = of_bits binary64 0
factor (suc zero) = neg two
factor (suc (suc zero)) = of_bits binary64 0
factor (suc (suc (suc k))) = two

abbrev pub commutator : Word → Word → CommProduct
commutator h p = record { word = mul h p; eps = factor (phase h p) }
