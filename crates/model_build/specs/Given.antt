-- SPDX-FileCopyrightText: 2026 The PPVM Authors
-- SPDX-License-Identifier: Apache-2.0

-- The items a model is built from, as they are given, and how each is tested and read.
use Rattle.std.specs.Prelude.{ℕ, not, ◌||◌, List, eqb, ltb, Float, length, Result, Ok, Err}
use Rattle.std.specs.Float.Ieee.{lt}
use Rattle.refusal.specs.declared.Refusal.TheVariants.{NegativeRate, EmptyLincomb, NumberOutOfRange, CountAboveLimit}
use Rattle.notation.specs.Text.{parse}
use Rattle.word.specs.declared.word.Word.{Word}
use Rattle.refusal.specs.declared.Refusal.{Refusal}
use Rattle.number.specs.Numbers.{Cx}
use Rattle.number.specs.Floats.{floats, float0, in_range}
use Rattle.gksl.specs.Model.{RealTerm, JumpOver}
use Rattle.gksl.specs.Words.{pauli}
use Rattle.lent.specs.Read.{Read, got, refused, refuse_if, onward, each}
use Rattle.model.specs.Terms.{Term}

-- ---- items
pub record GivenReal : Type 0 where
  pub text : List ℕ
  pub number : Float

pub record GivenTerm : Type 0 where
  pub text : List ℕ
  pub number : Cx floats

pub record GivenJump : Type 0 where
  pub rate : Float
  pub terms : List GivenTerm

abbrev pub read_parsed : Result Word Refusal → Read Word
read_parsed (Ok lanes) = got lanes
read_parsed (Err r) = refused r

abbrev pub read_word : ℕ → List ℕ → Read Word
read_word n text = read_parsed (parse n text)

-- a Hamiltonian item: text, number
unfoldable pub read_real : ℕ → ℕ → GivenReal → Read (RealTerm floats pauli)
read_real n i g =
    onward (read_word n g.text) (λ w. refuse_if (not (in_range g.number)) (NumberOutOfRange i) (got (record { num = g.number; word = w })))

-- a term of jump or operator i: text, number
unfoldable pub read_term : ℕ → ℕ → GivenTerm → Read Term
read_term n i g =
    onward (read_word n g.text)
    (λ w. refuse_if (not (in_range g.number.re) || not (in_range g.number.im)) (NumberOutOfRange i) (got (record { num = g.number; word = w })))

-- Limit: 16 terms an operator
abbrev pub max_terms : ℕ
max_terms = 16

-- an operator: 6, 8, then each term
unfoldable pub read_operator : ℕ → ℕ → List GivenTerm → Read (List Term)
read_operator n i terms =
    refuse_if (eqb (length terms) 0) (EmptyLincomb i)
    (refuse_if (ltb max_terms (length terms)) (CountAboveLimit (length terms))
    (each (λ _. read_term n i) 0 terms))

-- a jump: 5, 7 for the rate, then as an operator
unfoldable pub read_jump : ℕ → ℕ → GivenJump → Read (JumpOver floats pauli)
read_jump n i j =
    refuse_if (lt j.rate float0) (NegativeRate i)
    (refuse_if (not (in_range j.rate)) (NumberOutOfRange i)
    (onward (read_operator n i j.terms) (λ op. got (record { rate = j.rate; op = op }))))
