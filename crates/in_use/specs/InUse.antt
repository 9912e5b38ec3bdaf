-- SPDX-FileCopyrightText: 2026 The PPVM Authors
-- SPDX-License-Identifier: Apache-2.0

-- Two lendings of one model: the tables may be of other lengths, and past the places that the model's counts name anything may stand.
use Rattle.std.specs.Prelude.{◌*◌, ◌≡◌, take}
use Rattle.word.specs.Flat.{words}
use Rattle.model.specs.Stored.{ModelTables, jump_numbers}
use Rattle.model.specs.declared.stored.Model.{Model}

-- the same in the places in use: Hamiltonian terms, jumps and pairs, terms, of two numbers each
pub record SameModel (m : Model) (t t' : ModelTables) : Type 0 where
  pub h_words : take m.hamiltonian (words t.h_words) ≡ take m.hamiltonian (words t'.h_words)
  pub h_coeffs : take m.hamiltonian t.h_coeffs ≡ take m.hamiltonian t'.h_coeffs
  pub jumps : take (jump_numbers * m.jumps) t.jumps ≡ take (jump_numbers * m.jumps) t'.jumps
  pub rates : take m.jumps t.rates ≡ take m.jumps t'.rates
  pub t_words : take m.terms (words t.t_words) ≡ take m.terms (words t'.t_words)
  pub t_numbers : take (2 * m.terms) t.t_numbers ≡ take (2 * m.terms) t'.t_numbers
