-- SPDX-FileCopyrightText: 2026 The PPVM Authors
-- SPDX-License-Identifier: Apache-2.0

-- The qubits at which a word has a letter other than I.
use Rattle.std.specs.Prelude.{ℕ, Bool, not, ◌&&◌, eqb, leb}
use Rattle.word.specs.Count.{any_to}
use Rattle.word.specs.Word.{max_qubits, letter_at}
use Rattle.word.specs.declared.word.Word.{Word}

abbrev pub acts_on : Word → ℕ → Bool
acts_on w q = not (eqb (letter_at w q) 0)

-- does the word have a bit at or above qubit n
unfoldable pub reaches : Word → ℕ → Bool
reaches w n = any_to max_qubits (λ q. leb n q && acts_on w q)

-- do two words share a qubit
unfoldable pub share : Word → Word → Bool
share p q = any_to max_qubits (λ k. acts_on p k && acts_on q k)
