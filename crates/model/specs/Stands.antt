-- SPDX-FileCopyrightText: 2026 The PPVM Authors
-- SPDX-License-Identifier: Apache-2.0

-- Statements between laws: what a tested model is, place by place. Its counts and tables fit, and each item passes.
use Rattle.std.specs.Prelude.{ℕ, ◌+◌, ◌*◌, ◌≤◌, ◌<◌, ◌≡◌, true, false, List, Float, get_or, length}
use Rattle.std.specs.Float.{nan}
use Rattle.word.specs.Word.{max_qubits, identity}
use Rattle.word.specs.Register.{reaches}
use Rattle.word.specs.Flat.{words, word_lanes}
use Rattle.word.specs.declared.word.Word.{Word}
use Rattle.number.specs.Numbers.{Cx}
use Rattle.number.specs.Floats.{floats, in_range, bounded}
use Rattle.model.specs.Stored.{ModelTables, kind_at, jump_at, given}
use Rattle.model.specs.Tested.{max_hamiltonian, max_jumps, bad_jump}
use Rattle.model.specs.declared.stored.Model.{Model}

-- both parts are
pub record InRange (z : Cx floats) : Type 0 where
  pub re : in_range z.re ≡ true
  pub im : in_range z.im ≡ true

pub record Bounded (z : Cx floats) : Type 0 where
  pub re : bounded z.re ≡ true
  pub im : bounded z.im ≡ true

-- a Hamiltonian term
pub record GoodReal (n : ℕ) (w : Word) (x : Float) : Type 0 where
  pub below : reaches w n ≡ false
  pub range : in_range x ≡ true

-- a term, given or not
pub record GoodTerm (n : ℕ) (w : Word) (z : Cx floats) : Type 0 where
  pub below : reaches w n ≡ false
  pub bound : Bounded z

abbrev pub number_at : List Float → ℕ → Cx floats
number_at l i = record { re = get_or l (i * 2) nan; im = get_or l (i * 2 + 1) nan }

pub record Stands (m : Model) (t : ModelTables) : Type 0 where
  pub qubits : m.qubits ≤ max_qubits
  pub few_reals : m.hamiltonian ≤ max_hamiltonian
  pub few_jumps : m.jumps ≤ max_jumps
  pub h_words_room : word_lanes * m.hamiltonian ≤ length t.h_words
  pub h_coeffs_room : m.hamiltonian ≤ length t.h_coeffs
  pub jumps_room : 8 * m.jumps ≤ length t.jumps
  pub rates_room : m.jumps ≤ length t.rates
  pub t_words_room : word_lanes * m.terms ≤ length t.t_words
  pub t_numbers_room : 2 * m.terms ≤ length t.t_numbers
  pub reals : (i : ℕ) → i < m.hamiltonian → GoodReal m.qubits (get_or (words t.h_words) i identity) (get_or t.h_coeffs i nan)
  pub kinds : (j : ℕ) → j < m.jumps → kind_at t.jumps j ≤ 2
  pub fits : (j : ℕ) → j < m.jumps → bad_jump m.terms (jump_at t.jumps t.rates j) ≡ false
  pub terms : (i : ℕ) → i < m.terms → GoodTerm m.qubits (get_or (words t.t_words) i identity) (number_at t.t_numbers i)
  -- the given terms of each jump
  pub givens : (i : ℕ) → i < m.terms → (j : ℕ) → j < m.jumps → given (jump_at t.jumps t.rates j) i ≡ true → InRange (number_at t.t_numbers i)
