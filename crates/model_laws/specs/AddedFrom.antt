-- SPDX-FileCopyrightText: 2026 The PPVM Authors
-- SPDX-License-Identifier: Apache-2.0

-- What adding a matrix answers where the lent tables have room for all: a refusal of the model or of what is given, or the
-- model. How much room that is, in places that the model's counts and the numbers of operators and terms fix.
use Rattle.std.specs.Prelude.{ℕ, ◌+◌, ◌*◌, ◌/◌, ◌≤◌, min, List, ◌++◌, [], ◌∷◌, Float, length, get_or, Result, Ok}
use Rattle.refusal.specs.declared.Refusal.{Refusal}
use Rattle.refusal.specs.Cause.{Answer}
use Rattle.word.specs.Flat.{word_lanes}
use Rattle.number.specs.Floats.{floats}
use Rattle.model.specs.Stored.{ModelTables}
use Rattle.model.specs.Tested.{max_jumps, test_model}
use Rattle.model.specs.Fails.{number_fails}
use Rattle.model_build.specs.Given.{max_terms}
use Rattle.model_build.specs.Compiled.{Compiled}
use Rattle.model_build.specs.Built.{parts_fit, terms_of}
use Rattle.model.specs.declared.stored.Model.{Model}
use Rattle.k_matrix.specs.Matrix.{hermitian, pair_places}
use Rattle.k_matrix.specs.Pairs.{pairs_of}
use Rattle.k_matrix.specs.Added.{Input, operators, matrix, max_operators, work_needed, read_operators, all_terms}
use Rattle.model_laws.specs.BuiltFrom.{answered, answered_read}
use Rattle.lent.specs.Tests.{counted, entries, and_then, equal, in_turn}

-- 9 for the input's own lengths
unfoldable pub own_lengths : Input → Answer
own_lengths i =
    let ops : ℕ = operators i in
    let terms : ℕ = length i.numbers / 2 in
    in_turn (
    equal (ops * ops) (length i.k / 2)
    ∷ equal (ops * ops * 2) (length i.k)
    ∷ equal terms (length i.lengths)
    ∷ equal (terms * 2) (length i.numbers)
    ∷ and_then (parts_fit i.counts terms)
    ∷ and_then (parts_fit i.lengths (length i.texts))
    ∷ []) (Ok tt)

-- as `add` without the tests of the tables lent for more; those of the model are tested
unfoldable pub added_from : Model → Input → ModelTables → Result Model Refusal
added_from m i t =
    answered
    (and_then (test_model m t)
    (counted max_operators (operators i)
    (and_then (own_lengths i)
    (entries (operators i * operators i) (number_fails i.k)
    (hermitian (operators i) (matrix i) (Ok tt))))))
    (answered_read (read_operators m.qubits i) (λ As.
    answered (counted max_jumps (m.jumps + length (pair_places floats (operators i) (matrix i))) (Ok tt))
    (let cs : List Compiled = pairs_of m.terms i.counts (matrix i) As in
    Ok (record { qubits = m.qubits; hamiltonian = m.hamiltonian; jumps = m.jumps + length cs; terms = m.terms + length (all_terms As ++ terms_of cs) }))))

-- the pairs of k operators in which the first is not above the second
abbrev pub pairs_up_to : ℕ → ℕ
pairs_up_to k = k * (k + 1) / 2

-- the operators' terms, and for each pair a factor and a term of the product for two of them at most
abbrev pub matrix_places : ℕ → ℕ → ℕ
matrix_places k c = k * c + pairs_up_to k * (2 * (c * c))

-- at most k operators of at most c terms, each count up to its limit
pub record MatrixCounts (k c : ℕ) (i : Input) : Type 0 where
  pub operators : min (operators i) max_operators ≤ k
  pub terms : (j : ℕ) → min (get_or i.counts j 0) max_terms ≤ c

-- room for them beside what the model holds
pub record MatrixRoom (k c : ℕ) (m : Model) (t : ModelTables) (workWords : List ℕ) (workNumbers : List Float) : Type 0 where
  pub jumps : 8 * (m.jumps + pairs_up_to k) ≤ length t.jumps
  pub rates : m.jumps + pairs_up_to k ≤ length t.rates
  pub t_words : word_lanes * (m.terms + matrix_places k c) ≤ length t.t_words
  pub t_numbers : 2 * (m.terms + matrix_places k c) ≤ length t.t_numbers
  pub work_words : word_lanes * work_needed k (k * c) ≤ length workWords
  pub work_numbers : 2 * work_needed k (k * c) ≤ length workNumbers
