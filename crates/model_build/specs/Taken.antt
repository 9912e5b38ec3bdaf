-- SPDX-FileCopyrightText: 2026 The PPVM Authors
-- SPDX-License-Identifier: Apache-2.0

-- Contracts between functions: items as they are stored once they are tested, the word of a text, and the identity where there is none.
use Rattle.std.specs.Prelude.{ℕ, ◌*◌, ◌≤◌, ◌≡◌, List, map, Float, length, set, Result, Ok, Err}
use Rattle.word.specs.Word.{identity}
use Rattle.notation.specs.Text.{parse}
use Rattle.word.specs.Flat.{lay_word, word_lanes}
use Rattle.word.specs.declared.word.Word.{Word}
use Rattle.refusal.specs.declared.Refusal.{Refusal}
use Rattle.number.specs.Floats.{floats}
use Rattle.gksl.specs.Model.{RealTerm, JumpOver}
use Rattle.gksl.specs.Words.{pauli}
use Rattle.model_build.specs.Given.{GivenReal, GivenTerm, GivenJump}
use Rattle.model.specs.Terms.{Term}
use Rattle.lent.specs.Laid.{laid, total}

abbrev pub word_in : Result Word Refusal → Word
word_in (Ok lanes) = lanes
word_in (Err r) = identity

abbrev pub word_taken : ℕ → List ℕ → Word
word_taken n text = word_in (parse n text)

abbrev pub real_taken : ℕ → GivenReal → RealTerm floats pauli
real_taken n g = record { num = g.number; word = word_taken n g.text }

abbrev pub term_taken : ℕ → GivenTerm → Term
term_taken n g = record { num = g.number; word = word_taken n g.text }

abbrev pub jump_taken : ℕ → GivenJump → JumpOver floats pauli
jump_taken n j = record { rate = j.rate; op = map (term_taken n) j.terms }

-- room for the items of a Hamiltonian, a text and a number for each
pub record RealsRoom (texts : List ℕ) (lengths : List ℕ) (numbers : List Float) (lanes : List ℕ) (coeffs : List Float) : Type 0 where
  pub numbers_each : length lengths ≡ length numbers
  pub texts_hold : total lengths ≤ length texts
  pub lanes_room : word_lanes * length lengths ≤ length lanes
  pub coeffs_room : length lengths ≤ length coeffs

pub record LaysReals (reals : List (RealTerm floats pauli)) (lanes : List ℕ) (coeffs : List Float) (lanes' : List ℕ) (coeffs' : List Float) : Type 0 where
  pub lanes_are : lanes' ≡ laid lay_word 0 (map (λ h. h.word) reals) lanes
  pub coeffs_are : coeffs' ≡ laid set 0 (map (λ h. h.num) reals) coeffs
