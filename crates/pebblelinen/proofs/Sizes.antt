-- SPDX-FileCopyrightText: 2026 The PPVM Authors
-- SPDX-License-Identifier: Apache-2.0

-- Tables of the lengths that `model_sizes` and `matrix_sizes` name have room for all, so no table decides what building and
-- adding answer: for so many items at most, and for any input with the lengths named for its own counts. Assumes nothing.
use mathlib.Core.Path.{◌≡◌}
use mathlib.Core.List.{List, [], ◌∷◌}
use Prim.Native.Nat.{ℕ, zero, suc, ◌+◌, ◌*◌, ◌≤◌, min}
use native.Mathlib.Omega.{arith}
use lib.Ieee.{Float}
use lib.ListN.{length, get_or}
use Rattle.word.specs.Flat.{word_lanes}
use Rattle.model.specs.Stored.{ModelTables}
use Rattle.model.specs.Tested.{max_hamiltonian, max_jumps}
use Rattle.model_build.specs.Given.{max_terms}
use Rattle.model_build.specs.Built as Building
use Rattle.model.specs.declared.stored.Model.{Model}
use Rattle.k_matrix.specs.Added.{operators, max_operators}
use Rattle.k_matrix.specs.Added as Adding
use Rattle.model_laws.specs.BuiltFrom.{built_from, ModelCounts, ModelRoom}
use Rattle.model_laws.specs.AddedFrom.{added_from, MatrixCounts, MatrixRoom}
use Rattle.model_laws.proofs.RoomLaws.{build_answer, add_answer}
use Rattle.pebblelinen.specs.Models.{model_sizes, matrix_sizes, largest_count}
use Rattle.pebblelinen.specs.declared.models.Sizes.{Sizes}

-- tables at least as long
pub record AtLeast (s : Sizes) (t : ModelTables) (workWords : List ℕ) (workNumbers : List Float) : Type 0 where
  pub h_words : s.h_words ≤ length t.h_words
  pub h_coeffs : s.h_coeffs ≤ length t.h_coeffs
  pub jumps : s.jumps ≤ length t.jumps
  pub rates : s.rates ≤ length t.rates
  pub t_words : s.t_words ≤ length t.t_words
  pub t_numbers : s.t_numbers ≤ length t.t_numbers
  pub work_words : s.work_words ≤ length workWords
  pub work_numbers : s.work_numbers ≤ length workNumbers

count_most : (ks : List ℕ) (j : ℕ) → get_or ks j 0 ≤ largest_count ks
unfolding largest_count
count_most [] j = omega arith
count_most (k ∷ ks) zero = omega arith
count_most (k ∷ ks) (suc j) = omega (arith, count_most ks j)

-- ---- building
module _ (h j c : ℕ) (t : ModelTables) (workWords : List ℕ) (workNumbers : List Float) (a : AtLeast (model_sizes h j c) t workWords workNumbers) where
  model_room : ModelRoom (min h max_hamiltonian) (min j max_jumps) (min c max_terms) t workWords workNumbers
  unfolding model_sizes
  model_room = record {
    h_words = a.h_words;
    h_coeffs = a.h_coeffs;
    jumps = a.jumps;
    rates = a.rates;
    t_words = a.t_words;
    t_numbers = a.t_numbers;
    work_words = a.work_words;
    work_numbers = a.work_numbers;
  }

  pub model_enough : (n : ℕ) (i : Building.Input) → ModelCounts (min h max_hamiltonian) (min j max_jumps) (min c max_terms) i
      → (Building.build n i t workWords workNumbers).answer ≡ built_from n i
  model_enough n i counts = build_answer n (min h max_hamiltonian) (min j max_jumps) (min c max_terms) i counts t workWords workNumbers model_room

-- every input, by its own counts
pub model_own_enough : (n : ℕ) (i : Building.Input) (t : ModelTables) (workWords : List ℕ) (workNumbers : List Float)
    → AtLeast (model_sizes (length i.h_numbers) (length i.rates) (largest_count i.counts)) t workWords workNumbers
    → (Building.build n i t workWords workNumbers).answer ≡ built_from n i
model_own_enough n i t workWords workNumbers a =
    model_enough (length i.h_numbers) (length i.rates) (largest_count i.counts) t workWords workNumbers a n i
    (record { reals = omega arith; jumps = omega arith; terms = λ k. omega (arith, count_most i.counts k) })

-- ---- adding: tables that are so much longer than what the model takes
pub record Beyond (s : Sizes) (m : Model) (t : ModelTables) (workWords : List ℕ) (workNumbers : List Float) : Type 0 where
  pub jumps : 8 * m.jumps + s.jumps ≤ length t.jumps
  pub rates : m.jumps + s.rates ≤ length t.rates
  pub t_words : word_lanes * m.terms + s.t_words ≤ length t.t_words
  pub t_numbers : 2 * m.terms + s.t_numbers ≤ length t.t_numbers
  pub work_words : s.work_words ≤ length workWords
  pub work_numbers : s.work_numbers ≤ length workNumbers

module _ (k c : ℕ) (m : Model) (t : ModelTables) (workWords : List ℕ) (workNumbers : List Float) (b : Beyond (matrix_sizes k c) m t workWords workNumbers) where
  matrix_room : MatrixRoom (min k max_operators) (min c max_terms) m t workWords workNumbers
  unfolding matrix_sizes
  matrix_room = record {
    jumps = omega (arith, b.jumps);
    rates = b.rates;
    t_words = omega (arith, b.t_words);
    t_numbers = omega (arith, b.t_numbers);
    work_words = b.work_words;
    work_numbers = b.work_numbers;
  }

  pub matrix_enough : (i : Adding.Input) → MatrixCounts (min k max_operators) (min c max_terms) i → (Adding.add m i t workWords workNumbers).answer ≡ added_from m i t
  matrix_enough i counts = add_answer (min k max_operators) (min c max_terms) m i counts t workWords workNumbers matrix_room

-- every input, by its own counts
pub matrix_own_enough : (m : Model) (i : Adding.Input) (t : ModelTables) (workWords : List ℕ) (workNumbers : List Float)
    → Beyond (matrix_sizes (operators i) (largest_count i.counts)) m t workWords workNumbers
    → (Adding.add m i t workWords workNumbers).answer ≡ added_from m i t
matrix_own_enough m i t workWords workNumbers b =
    matrix_enough (operators i) (largest_count i.counts) m t workWords workNumbers b i
    (record { operators = omega arith; terms = λ j. omega (arith, count_most i.counts j) })
