-- SPDX-FileCopyrightText: 2026 The PPVM Authors
-- SPDX-License-Identifier: Apache-2.0

-- A model that was built, with the matrices added to it, in whatever tables it is lent: what was given, as it was read, and what stands
-- in the places in use.
use Rattle.std.specs.Prelude.{ℕ, ◌≡◌, List, [], ◌∷◌, ◌++◌, Float, Ok}
use Rattle.number.specs.Floats.{floats}
use Rattle.gksl.specs.Model.{RealTerm, JumpOver, MatrixOver, ModelOver}
use Rattle.gksl.specs.Words.{pauli}
use Rattle.model.specs.Stored.{ModelTables}
use Rattle.model.specs.Terms.{Term}
use Rattle.lent.specs.Read.{got}
use Rattle.model_build.specs.Built as Building
use Rattle.model.specs.declared.stored.Model.{Model}
use Rattle.k_matrix.specs.Added as Adding
use Rattle.in_use.specs.InUse.{SameModel}

-- with one more matrix
abbrev pub with_matrix : ModelOver floats pauli → MatrixOver floats pauli → ModelOver floats pauli
with_matrix g k = record { terms = g.terms; jumps = g.jumps; matrices = g.matrices ++ (k ∷ []) }

pub data Made : ModelOver floats pauli → Model → ModelTables → Type 0 where
  built : (n : ℕ) (i : Building.Input) (t : ModelTables) (workWords : List ℕ) (workNumbers : List Float)
      (m : Model) (hs : List (RealTerm floats pauli)) (js : List (JumpOver floats pauli))
      → (Building.build n i t workWords workNumbers).answer ≡ Ok m
      → Building.read_hamiltonian n i ≡ got hs
      → Building.read_jumps n i ≡ got js
      → Made (record { terms = hs; jumps = js; matrices = [] }) m (Building.build n i t workWords workNumbers).tables
  added : (g : ModelOver floats pauli) (m : Model) (t : ModelTables) → Made g m t
      → (i : Adding.Input) (workWords : List ℕ) (workNumbers : List Float) (m' : Model) (As : List (List Term))
      → (Adding.add m i t workWords workNumbers).answer ≡ Ok m'
      → Adding.read_operators m.qubits i ≡ got As
      → Made (with_matrix g (record { ops = As; entries = Adding.matrix i })) m' (Adding.add m i t workWords workNumbers).tables
  -- trimmed, or copied to other tables
  lent : (g : ModelOver floats pauli) (m : Model) (t t' : ModelTables) → Made g m t → SameModel m t t' → Made g m t'
