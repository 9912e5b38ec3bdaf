-- SPDX-FileCopyrightText: 2026 The PPVM Authors
-- SPDX-License-Identifier: Apache-2.0

-- Statements between laws: a model with more Hamiltonian terms, entries and terms, laid after those that stand, and what is asked of these.
use Rattle.std.specs.Prelude.{ℕ, ◌+◌, ◌-◌, ◌*◌, ◌≤◌, ◌<◌, ◌≡◌, true, false, List, [], ◌∷◌, map, Float, get_or, length, set}
use Rattle.std.specs.Float.{nan}
use Rattle.word.specs.Word.{identity, Sound}
use Rattle.word.specs.Flat.{lay_word, word_lanes}
use Rattle.number.specs.Floats.{floats}
use Rattle.gksl.specs.Model.{RealTerm}
use Rattle.gksl.specs.Words.{pauli}
use Rattle.sums.specs.Numbers.{lay_number, no_number}
use Rattle.model.specs.Stored.{ModelTables, kind_at, jump_at, given, lay_entry}
use Rattle.model.specs.Tested.{max_hamiltonian, max_jumps, bad_jump}
use Rattle.model.specs.Terms.{Term}
use Rattle.lent.specs.Laid.{laid}
use Rattle.model.specs.Stands.{InRange, GoodReal, GoodTerm}
use Rattle.model.specs.declared.stored.Model.{Model}
use Rattle.lent.specs.Every.{Every}

pub record Additions : Type 0 where
  pub reals : List (RealTerm floats pauli)
  pub entries : List (List ℕ)
  -- one for each entry
  pub rates : List Float
  pub terms : List Term

abbrev pub larger : Model → Additions → Model
larger m a = record {
  qubits = m.qubits;
  hamiltonian = m.hamiltonian + length a.reals;
  jumps = m.jumps + length a.entries;
  terms = m.terms + length a.terms;
}

unfoldable pub extended : Model → ModelTables → Additions → ModelTables
extended m t a = record {
  h_words = laid lay_word m.hamiltonian (map (λ h. h.word) a.reals) t.h_words;
  h_coeffs = laid set m.hamiltonian (map (λ h. h.num) a.reals) t.h_coeffs;
  jumps = laid lay_entry m.jumps a.entries t.jumps;
  rates = laid set m.jumps a.rates t.rates;
  t_words = laid lay_word m.terms (map (λ z. z.word) a.terms) t.t_words;
  t_numbers = laid lay_number m.terms (map (λ z. z.num) a.terms) t.t_numbers;
}

-- what stands past the end
abbrev pub no_term : Term
no_term = record { num = no_number; word = identity }

-- an entry and its rate, for terms that are laid from a place on: a kind that there is, ranges inside the terms table,
-- and given terms that are among the new ones, in range
pub record GoodEntry (from : ℕ) (terms : List Term) (e : List ℕ) (rate : Float) : Type 0 where
  pub eight : length e ≡ 8
  pub kind : kind_at e 0 ≤ 2
  pub fits : bad_jump (from + length terms) (jump_at e (rate ∷ []) 0) ≡ false
  pub givens : (i : ℕ) → given (jump_at e (rate ∷ []) 0) i ≡ true → (from ≤ i) × InRange (get_or terms (i - from) no_term).num

-- the new items pass, and there is room for them
pub record Extends (m : Model) (t : ModelTables) (a : Additions) : Type 0 where
  pub rates_each : length a.rates ≡ length a.entries
  pub reals : Every (λ h. Sound h.word × GoodReal m.qubits h.word h.num) a.reals
  pub entries : (j : ℕ) → j < length a.entries → GoodEntry m.terms a.terms (get_or a.entries j []) (get_or a.rates j nan)
  pub terms : Every (λ z. Sound z.word × GoodTerm m.qubits z.word z.num) a.terms
  pub few_reals : m.hamiltonian + length a.reals ≤ max_hamiltonian
  pub few_jumps : m.jumps + length a.entries ≤ max_jumps
  pub h_words_room : word_lanes * (m.hamiltonian + length a.reals) ≤ length t.h_words
  pub h_coeffs_room : m.hamiltonian + length a.reals ≤ length t.h_coeffs
  pub jumps_room : 8 * (m.jumps + length a.entries) ≤ length t.jumps
  pub rates_room : m.jumps + length a.entries ≤ length t.rates
  pub t_words_room : word_lanes * (m.terms + length a.terms) ≤ length t.t_words
  pub t_numbers_room : 2 * (m.terms + length a.terms) ≤ length t.t_numbers
