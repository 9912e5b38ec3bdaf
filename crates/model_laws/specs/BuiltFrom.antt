-- SPDX-FileCopyrightText: 2026 The PPVM Authors
-- SPDX-License-Identifier: Apache-2.0

-- What building answers where the lent tables have room for all: a refusal of what is given, or the model. How much room that
-- is, in places that the numbers of items alone fix.
use Rattle.std.specs.Prelude.{ℕ, ◌+◌, ◌*◌, ◌/◌, ◌≤◌, min, List, map, [], ◌∷◌, Float, length, get_or, Result, Ok, Err}
use Rattle.refusal.specs.declared.Refusal.{Refusal}
use Rattle.model.specs.declared.stored.Model.{Model}
use Rattle.refusal.specs.Cause.{Answer}
use Rattle.word.specs.Flat.{word_lanes}
use Rattle.model.specs.Stored.{ModelTables}
use Rattle.model.specs.Tested.{max_hamiltonian, max_jumps}
use Rattle.model_build.specs.Given.{max_terms}
use Rattle.model_build.specs.Compiled.{Compiled, compile_jump}
use Rattle.model_build.specs.Built.{Input, parts_fit, work_places, read_hamiltonian, read_jumps, terms_of, size_tests}
use Rattle.lent.specs.Tests.{where_any, and_then, equal, in_turn}
use Rattle.lent.specs.Read.{Read, got, refused}

-- the refusal of a test or of an item, or what comes after
abbrev pub answered : Answer → Result Model Refusal → Result Model Refusal
answered (Ok _) after = after
answered (Err r) after = Err r

module _ {A : Type 0} where
  abbrev pub answered_read : Read A → (A → Result Model Refusal) → Result Model Refusal
  answered_read (got a) f = f a
  answered_read (refused r) f = Err r

-- 9 for the input's own lengths
unfoldable pub own_lengths : Input → Answer
own_lengths i =
    let terms : ℕ = length i.numbers / 2 in
    in_turn (
    equal (length i.h_numbers + terms) (length i.lengths)
    ∷ equal (length i.rates) (length i.counts)
    ∷ equal (terms * 2) (length i.numbers)
    ∷ and_then (parts_fit i.counts terms)
    ∷ and_then (parts_fit i.lengths (length i.texts))
    ∷ []) (Ok tt)

-- as `build` without the tests of lent tables
unfoldable pub built_from : ℕ → Input → Result Model Refusal
built_from n i =
    answered (in_turn (size_tests n i) (own_lengths i))
    (answered_read (read_hamiltonian n i) (λ hs. answered_read (read_jumps n i) (λ js.
    let cs : List Compiled = map compile_jump js in
    Ok (record { qubits = n; hamiltonian = length hs; jumps = length cs; terms = length (terms_of cs) }))))

-- at most h Hamiltonian items and j jumps of at most c terms, each count up to its limit
pub record ModelCounts (h j c : ℕ) (i : Input) : Type 0 where
  pub reals : min (length i.h_numbers) max_hamiltonian ≤ h
  pub jumps : min (length i.rates) max_jumps ≤ j
  pub terms : (k : ℕ) → min (get_or i.counts k 0) max_terms ≤ c

-- room for them: a jump stores its terms and its product
pub record ModelRoom (h j c : ℕ) (t : ModelTables) (workWords : List ℕ) (workNumbers : List Float) : Type 0 where
  pub h_words : word_lanes * h ≤ length t.h_words
  pub h_coeffs : h ≤ length t.h_coeffs
  pub jumps : 8 * j ≤ length t.jumps
  pub rates : j ≤ length t.rates
  pub t_words : word_lanes * (j * (c + c * c)) ≤ length t.t_words
  pub t_numbers : 2 * (j * (c + c * c)) ≤ length t.t_numbers
  pub work_words : word_lanes * where_any j work_places ≤ length workWords
  pub work_numbers : 2 * where_any j work_places ≤ length workNumbers
