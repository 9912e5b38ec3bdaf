-- SPDX-FileCopyrightText: 2026 The PPVM Authors
-- SPDX-License-Identifier: Apache-2.0

-- A qubit on which no word of what was given acts.
use Rattle.std.specs.Prelude.{ℕ, ◌≡◌}
use Rattle.word.specs.Word.{letter_at}
use Rattle.number.specs.Floats.{floats}
use Rattle.gksl.specs.Model.{ModelOver}
use Rattle.gksl.specs.Words.{pauli}
use Rattle.model.specs.Terms.{Term}
use Rattle.lent.specs.Every.{Every}

-- a term with I at the qubit
abbrev pub Clear : ℕ → Term → Type 0
Clear q a = letter_at a.word q ≡ 0

-- the words of the Hamiltonian terms, of the jumps' operators, and of the operators of the matrices
pub record Untouched (g : ModelOver floats pauli) (q : ℕ) : Type 0 where
  pub terms : Every (λ h. letter_at h.word q ≡ 0) g.terms
  pub jumps : Every (λ j. Every (Clear q) j.op) g.jumps
  pub matrices : Every (λ k. Every (Every (Clear q)) k.ops) g.matrices
