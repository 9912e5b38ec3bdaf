-- SPDX-FileCopyrightText: 2026 The PPVM Authors
-- SPDX-License-Identifier: Apache-2.0

-- Adding a matrix to a model that stands: the model, 8, 9, 7, 10, the operators, 8; 13 last. The tables afterwards.
use Rattle.std.specs.Prelude.{ℕ, suc, ◌+◌, ◌*◌, ◌/◌, min, cond, List, [], ◌∷◌, ◌++◌, map, ltb, Float, length, set, Ok, Err}
use Rattle.refusal.specs.declared.Refusal.TheVariants.{TableFull}
use Rattle.refusal.specs.Cause.{Answer}
use Rattle.word.specs.Flat.{lay_word, word_lanes}
use Rattle.number.specs.Numbers.{Cx}
use Rattle.number.specs.Floats.{floats}
use Rattle.sums.specs.Numbers.{complexes, lay_number}
use Rattle.model.specs.Stored.{ModelTables, lay_entry}
use Rattle.model.specs.Tested.{max_jumps, test_model}
use Rattle.model.specs.Fails.{number_fails}
use Rattle.model_build.specs.Given.{GivenTerm, max_terms, read_operator}
use Rattle.model_build.specs.Compiled.{Compiled}
use Rattle.lent.specs.Read.{Read, each}
use Rattle.model.specs.Terms.{Term}
use Rattle.lent.specs.Laid.{laid}
use Rattle.model_build.specs.Built.{parts, term_items, parts_fit, term_places, entries_from, terms_of, rates_of, Building, finished, tested, when_read}
use Rattle.model.specs.declared.stored.Model.{Model}
use Rattle.k_matrix.specs.Matrix.{hermitian, pair_places}
use Rattle.k_matrix.specs.Pairs.{pairs_of}
use Rattle.lent.specs.Tests.{counted, lent, where_any, entries, and_then, equal, in_turn}

-- ---- what is given: texts by their lengths, terms by the count of each operator, K row by row
pub record Input : Type 0 where
  pub texts : List ℕ
  pub lengths : List ℕ
  pub counts : List ℕ
  pub numbers : List Float
  pub k : List Float

-- how many operators there are
abbrev pub operators : Input → ℕ
operators i = length i.counts

abbrev pub operators_given : Input → List (List GivenTerm)
operators_given i = parts i.counts (term_items (parts i.lengths i.texts) (complexes i.numbers))

abbrev pub matrix : Input → List (Cx floats)
matrix i = complexes i.k

-- Limit: 64 operators a matrix
abbrev pub max_operators : ℕ
max_operators = 64

-- ---- 9: the input's own, then the lent tables in their order; the terms table gives 13
-- the table of jumps and pairs has room for all pairs that there can be
abbrev pub entries_needed : Model → ℕ → ℕ
entries_needed m ops = min max_jumps (m.jumps + ops * suc ops / 2)

-- the work places of the largest product and of all terms of the operators, up to the limit of each; none without operators
abbrev pub work_needed : ℕ → ℕ → ℕ
work_needed ops terms = where_any ops (256 + min terms (max_terms * ops))

unfoldable pub lengths_answer : Model → Input → ModelTables → List ℕ → List Float → Answer
lengths_answer m i t workWords workNumbers =
    let ops : ℕ = operators i in
    let terms : ℕ = length i.numbers / 2 in
    in_turn (
    equal (ops * ops) (length i.k / 2)
    ∷ equal (ops * ops * 2) (length i.k)
    ∷ equal terms (length i.lengths)
    ∷ equal (terms * 2) (length i.numbers)
    ∷ and_then (parts_fit i.counts terms)
    ∷ and_then (parts_fit i.lengths (length i.texts))
    ∷ lent (entries_needed m ops) (length t.jumps / 8)
    ∷ lent (entries_needed m ops) (length t.rates)
    ∷ lent (work_needed ops terms) (length workWords / word_lanes)
    ∷ lent (work_needed ops terms) (length workNumbers / 2)
    ∷ []) (Ok tt)

-- ---- the operators, read
abbrev pub read_operators : ℕ → Input → Read (List (List Term))
read_operators n i = each (read_operator n) 0 (operators_given i)

-- the terms of all of them, one after another
unfoldable pub all_terms : List (List Term) → List Term
all_terms [] = []
all_terms (A ∷ As) = A ++ all_terms As

-- ---- what adding answers, and the lent tables afterwards
module _ (m : Model) (i : Input) (t : ModelTables) (workWords : List ℕ) (workNumbers : List Float) where
  -- the tests before the operators: the model, 8, 9, 7, 10
  unfoldable pub matrix_tests : Answer
  matrix_tests =
      in_turn (
      and_then (test_model m t)
      ∷ counted max_operators (operators i)
      ∷ and_then (lengths_answer m i t workWords workNumbers)
      ∷ entries (operators i * operators i) (number_fails i.k)
      ∷ []) (hermitian (operators i) (matrix i) (Ok tt))

  -- the test after them: 8 for jumps and pairs together
  abbrev pub pairs_test : Answer
  pairs_test = counted max_jumps (m.jumps + length (pair_places floats (operators i) (matrix i))) (Ok tt)

  -- the operators' terms, then those of each pair
  unfoldable pub stored : List (List Term) → List Compiled → ModelTables
  stored As cs = record {
    h_words = t.h_words;
    h_coeffs = t.h_coeffs;
    jumps = laid lay_entry m.jumps (entries_from (m.terms + length (all_terms As)) cs) t.jumps;
    rates = laid set m.jumps (rates_of cs) t.rates;
    t_words = laid lay_word m.terms (map (λ z. z.word) (all_terms As ++ terms_of cs)) t.t_words;
    t_numbers = laid lay_number m.terms (map (λ z. z.num) (all_terms As ++ terms_of cs)) t.t_numbers;
  }

  abbrev pub compiled_matrix : List (List Term) → Building
  compiled_matrix As =
      let cs : List Compiled = pairs_of m.terms i.counts (matrix i) As in
      let terms : ℕ = m.terms + length (all_terms As ++ terms_of cs) in
      cond (ltb (term_places t) terms)
      (finished t workWords workNumbers (Err (TableFull 4 (term_places t))) t)
      (finished t workWords workNumbers (Ok (record { qubits = m.qubits; hamiltonian = m.hamiltonian; jumps = m.jumps + length cs; terms = terms })) (stored As cs))

  unfoldable pub add : Building
  add =
      tested t workWords workNumbers matrix_tests
      (when_read t workWords workNumbers (read_operators m.qubits i) (λ As. tested t workWords workNumbers pairs_test (compiled_matrix As)))
