-- SPDX-FileCopyrightText: 2026 The PPVM Authors
-- SPDX-License-Identifier: Apache-2.0

-- Contracts between functions: what the inner functions compute.
use Rattle.std.specs.Prelude.{ℕ, ◌+◌, ◌*◌, ◌%◌, Bool, true, false, ◌≡◌, eqb, get_or}
use Rattle.std.specs.Int.Count.{ones}
use Rattle.word.specs.Count.{sum_to}
use Rattle.word.specs.Letter.{mul_phase}
use Rattle.word.specs.Word.{bit, letter_at, Sound}
use Rattle.word.specs.declared.word.Word.{Word}
use Rattle.word.specs.declared.algebra.Planes.{Planes}

abbrev pub chosen : Bool → ℕ → ℕ → ℕ
chosen true a b = a
chosen false a b = b

-- a word with the letter at qubit q replaced
pub record Put (w : Word) (q code : ℕ) (r : Word) : Type 0 where
  pub letters : (k : ℕ) → letter_at r k ≡ chosen (eqb k q) code (letter_at w k)
  pub sound : Sound r

-- the phases of 64 qubits, whose letters stand in a and b on the left and in c and d on the right
unfoldable pub lane_phase : ℕ → ℕ → ℕ → ℕ → ℕ
lane_phase a b c d = sum_to 64 (λ k. mul_phase (bit a k + 2 * bit b k) (bit c k + 2 * bit d k))

-- those of lane i
abbrev pub lane_phase_at : Word → Word → ℕ → ℕ
lane_phase_at p q i = lane_phase (get_or p.x i 0) (get_or p.z i 0) (get_or q.x i 0) (get_or q.z i 0)

-- the counts of two bit planes, added up
unfoldable pub plane_phase : Planes → ℕ
plane_phase t = (ones t.low + 2 * ones t.high) % 4
