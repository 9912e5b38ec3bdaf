-- SPDX-FileCopyrightText: 2026 The PPVM Authors
-- SPDX-License-Identifier: Apache-2.0

-- Answers about models in plain numbers, and the lengths of tables that are enough.
use Rattle.std.specs.Prelude.{ℕ, ◌+◌, ◌*◌, ◌/◌, min, max, ◌≡◌, List, [], ◌∷◌, Float, Result, Ok, Err}
use Rattle.refusal.specs.Cause.{status_of, answer_status}
use Rattle.refusal.specs.declared.Refusal.{Refusal}
use Rattle.word.specs.Flat.{word_lanes}
use Rattle.model.specs.Stored.{ModelTables}
use Rattle.model_build.specs.Given.{max_terms}
use Rattle.model.specs.Tested.{max_hamiltonian, max_jumps}
use Rattle.model_build.specs.Built.{work_places, Building}
use Rattle.k_matrix.specs.Added.{max_operators, work_needed}
use Rattle.model.specs.declared.stored.Model.{Model}
use Rattle.pebblelinen.specs.declared.models.BuiltModel.{BuiltModel}
use Rattle.pebblelinen.specs.declared.models.Sizes.{Sizes}
use Rattle.lent.specs.Tests.{where_any}

-- the model beside a refusal
abbrev no_model : Model
no_model = record { qubits = 0; hamiltonian = 0; jumps = 0; terms = 0 }

-- the model that was built, or the refusal and no model
abbrev pub built_of : Result Model Refusal → BuiltModel
built_of (Ok m) = record { status = answer_status (Ok tt); model = m }
built_of (Err refusal) = record { status = status_of refusal; model = no_model }

-- what a builder answers, and the lent tables afterwards
pub record Leaves (b : Building) (r : BuiltModel) (t : ModelTables) (workWords : List ℕ) (workNumbers : List Float) : Type 0 where
  pub answers : r ≡ built_of b.answer
  pub tables_are : t ≡ b.tables
  pub work_words : workWords ≡ b.work_words
  pub work_numbers : workNumbers ≡ b.work_numbers

-- the lengths of slices with so many places for Hamiltonian terms, for jumps and pairs, for terms and for work: a word has
-- its lanes, a complex number two numbers, an entry of the table of jumps and pairs eight
abbrev pub lengths_of : ℕ → ℕ → ℕ → ℕ → Sizes
lengths_of hamiltonian jumps terms work = record {
  h_words = word_lanes * hamiltonian;
  h_coeffs = hamiltonian;
  jumps = 8 * jumps;
  rates = jumps;
  t_words = word_lanes * terms;
  t_numbers = 2 * terms;
  work_words = word_lanes * work;
  work_numbers = 2 * work;
}

-- the lengths that are enough for so many Hamiltonian items and jumps of at most so many terms: a jump stores its terms and
-- its product, which has no more words than there are pairs of terms. Counts above a limit are refused, so they ask for no more
-- than the limit does. Without jumps no work place is used
unfoldable pub model_sizes : ℕ → ℕ → ℕ → Sizes
model_sizes hamiltonian jumps terms =
    let j : ℕ = min jumps max_jumps in
    let c : ℕ = min terms max_terms in
    lengths_of (min hamiltonian max_hamiltonian) j (j * (c + c * c)) (where_any j work_places)

-- the further lengths for a matrix over so many operators of at most so many terms, and those of its work tables: an entry for
-- each two operators, the first not above the second; the operators' terms, and for each entry its factors and its product, each
-- no more than there are pairs of terms. The work tables hold a product's sums and all operators, where there is one
unfoldable pub matrix_sizes : ℕ → ℕ → Sizes
matrix_sizes operators terms =
    let k : ℕ = min operators max_operators in
    let c : ℕ = min terms max_terms in
    let pairs : ℕ = k * (k + 1) / 2 in
    lengths_of 0 pairs (k * c + pairs * (2 * (c * c))) (work_needed k (k * c))

-- the largest of the counts of terms of an input
unfoldable pub largest_count : List ℕ → ℕ
largest_count [] = 0
largest_count (k ∷ ks) = max k (largest_count ks)
