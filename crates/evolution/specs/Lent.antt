-- SPDX-FileCopyrightText: 2026 The PPVM Authors
-- SPDX-License-Identifier: Apache-2.0

-- What an evolution is lent to work with, and what it asks for: the model, 8, 9, 11, 7, 12.
use Rattle.std.specs.Prelude.{ℕ, suc, ◌*◌, ◌/◌, List, [], ◌∷◌, Float, length, replicate, Ok}
use Rattle.refusal.specs.Cause.{Answer}
use Rattle.word.specs.Flat.{word_lanes}
use Rattle.number.specs.Floats.{float0}
use Rattle.model.specs.Stored.{ModelTables}
use Rattle.model.specs.Tested.{test_model}
use Rattle.model.specs.declared.stored.Model.{Model}
use Rattle.lent.specs.Tests.{counted, lent, where_any, and_then, in_turn}
use Rattle.lent.specs.Words.{max_words, inside_to}
use Rattle.lent.specs.Numbers.{finite_to, finite_threshold}
use Rattle.action.specs.Counts.{row_lanes}
use Rattle.generator.specs.Lent as Generator

-- the work tables of the generator, the matrix by rows, and three tables of numbers
pub record Work : Type 0 where
  pub generator : Generator.Work
  pub offsets : List ℕ
  pub columns : List ℕ
  pub values : List Float
  pub v : List Float
  pub b : List Float
  pub product : List Float

abbrev pub work_of : Generator.Work → List ℕ → List ℕ → List Float → List Float → List Float → List Float → Work
work_of generator offsets columns values v b product = record { generator = generator; offsets = offsets; columns = columns; values = values; v = v; b = b; product = product }

abbrev pub zeroed : Work → Work
zeroed w = record {
  generator = Generator.zeroed w.generator;
  offsets = replicate (length w.offsets) 0;
  columns = replicate (length w.columns) 0;
  values = replicate (length w.values) float0;
  v = replicate (length w.v) float0;
  b = replicate (length w.b) float0;
  product = replicate (length w.product) float0;
}

-- ---- the tests
-- the model, 8, 9 for words and coefficients
unfoldable pub basis_tests : Model → ModelTables → List ℕ → List Float → ℕ → Answer
basis_tests m t lanes coeffs len =
    in_turn (
    and_then (test_model m t)
    ∷ counted max_words len
    ∷ lent len (length lanes / word_lanes)
    ∷ lent len (length coeffs)
    ∷ []) (Ok tt)

-- 9 for tables of so many places, over a register of n qubits; no words ask for no place
unfoldable pub work_tests : ℕ → ℕ → ℕ → ℕ → ℕ → ℕ → ℕ → ℕ → ℕ → ℕ → ℕ → ℕ → Answer
work_tests n len hIndex jIndex mask heads nexts offsets v b product out =
    in_turn (
    lent (where_any len (row_lanes * n)) hIndex
    ∷ lent (where_any len (row_lanes * n)) jIndex
    ∷ lent (where_any len row_lanes) mask
    ∷ lent len heads
    ∷ lent len nexts
    ∷ lent (where_any len (suc len)) offsets
    ∷ lent len v
    ∷ lent len b
    ∷ lent len product
    ∷ lent len out
    ∷ []) (Ok tt)

-- 11, then 7 for coefficients, dt and drop_tol
unfoldable pub number_tests : ℕ → List ℕ → ℕ → List Float → Float → Float → Answer
number_tests len lanes n coeffs dt dropTol =
    in_turn (
    inside_to len lanes n
    ∷ finite_to 0 len coeffs
    ∷ finite_threshold len dt
    ∷ finite_threshold len dropTol
    ∷ []) (Ok tt)

-- and 12
unfoldable pub evolve_tests : Model → ModelTables → List ℕ → List Float → ℕ → Float → Float → Work → List Float → Answer
evolve_tests m t lanes coeffs len dt dropTol w out =
    in_turn (
    and_then (basis_tests m t lanes coeffs len)
    ∷ and_then (work_tests m.qubits len (length w.generator.h_index) (length w.generator.j_index) (length w.generator.mask) (length w.generator.heads) (length w.generator.nexts) (length w.offsets) (length w.v) (length w.b) (length w.product) (length out))
    ∷ and_then (number_tests len lanes m.qubits coeffs dt dropTol)
    ∷ []) (Generator.distinct (Generator.basis_of lanes len))
