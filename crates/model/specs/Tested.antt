-- SPDX-FileCopyrightText: 2026 The PPVM Authors
-- SPDX-License-Identifier: Apache-2.0

-- Testing a lent model: 1 and 8, then the tables of Hamiltonian terms, of jumps and pairs, and of terms, entry by entry.
use Rattle.std.specs.Prelude.{ℕ, ◌+◌, ◌-◌, ◌*◌, ◌/◌, Bool, not, ◌&&◌, ◌||◌, ltb, leb, get_or, length, [], ◌∷◌, Ok}
use Rattle.std.specs.Float.{nan}
use Rattle.refusal.specs.Cause.{Answer}
use Rattle.word.specs.Count.{any_to}
use Rattle.word.specs.Word.{identity}
use Rattle.word.specs.Register.{reaches}
use Rattle.word.specs.Flat.{words, word_lanes}
use Rattle.number.specs.Floats.{in_range, bounded}
use Rattle.model.specs.Stored.{ModelTables, kind_at, jump_at, given}
use Rattle.model.specs.declared.stored.Model.{Model}
use Rattle.model.specs.declared.stored.Range.{Range}
use Rattle.model.specs.declared.stored.Jump.{Jump}
use Rattle.model.specs.declared.stored.Jump.TheVariants.{Pauli, General, Pair}
use Rattle.lent.specs.Tests.{in_turn, registered, counted, entries, lent}

-- Limits: 4,096 Hamiltonian terms; 4,096 jumps and pairs together
abbrev pub max_hamiltonian : ℕ
max_hamiltonian = 4096

abbrev pub max_jumps : ℕ
max_jumps = 4096

-- a Hamiltonian term: its word below n, its number in range
unfoldable pub bad_real : ℕ → ModelTables → ℕ → Bool
bad_real n t i = reaches (get_or (words t.h_words) i identity) n || not (in_range (get_or t.h_coeffs i nan))

-- a range inside a table of so many places
abbrev pub inside : ℕ → Range → Bool
inside places r = leb r.start r.end && leb r.end places

abbrev pub width : Range → ℕ
width r = r.end - r.start

-- a jump or a pair: a kind that there is, ranges inside the terms table, its rate in range
unfoldable pub bad_jump : ℕ → Jump → Bool
bad_jump places (Pauli rate term) = not (ltb term places && bounded rate)
bad_jump places (General rate terms product) = not (inside places terms && (inside places product && in_range rate))
bad_jump places (Pair left right factors product) =
    not (inside places left && (inside places right && (inside places product && leb (factors + width left * width right) places)))

unfoldable pub bad_entry : ℕ → ModelTables → ℕ → Bool
bad_entry places t j = ltb 2 (kind_at t.jumps j) || bad_jump places (jump_at t.jumps t.rates j)

-- is a place of the terms table that of a given term of one of the jumps
unfoldable pub is_given : ℕ → ModelTables → ℕ → Bool
is_given jumps t place = any_to jumps (λ j. given (jump_at t.jumps t.rates j) place)

-- a term: its word below n, its two numbers at most 2^620 in magnitude, and in range where it is given
unfoldable pub bad_term : ℕ → ℕ → ModelTables → ℕ → Bool
bad_term n jumps t i =
    reaches (get_or (words t.t_words) i identity) n
    || (not (bounded (get_or t.t_numbers (i * 2) nan)) || (not (bounded (get_or t.t_numbers (i * 2 + 1) nan))
    || (is_given jumps t i && (not (in_range (get_or t.t_numbers (i * 2) nan)) || not (in_range (get_or t.t_numbers (i * 2 + 1) nan))))))

unfoldable pub test_model : Model → ModelTables → Answer
test_model m t =
    in_turn (
    registered m.qubits
    ∷ counted max_hamiltonian m.hamiltonian
    ∷ counted max_jumps m.jumps
    ∷ lent m.hamiltonian (length t.h_words / word_lanes)
    ∷ lent m.hamiltonian (length t.h_coeffs)
    ∷ lent m.jumps (length t.jumps / 8)
    ∷ lent m.jumps (length t.rates)
    ∷ lent m.terms (length t.t_words / word_lanes)
    ∷ lent m.terms (length t.t_numbers / 2)
    ∷ entries m.hamiltonian (bad_real m.qubits t)
    ∷ entries m.jumps (bad_entry m.terms t)
    ∷ entries m.terms (bad_term m.qubits m.jumps t)
    ∷ []) (Ok tt)
