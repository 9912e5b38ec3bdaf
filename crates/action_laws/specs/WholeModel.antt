-- SPDX-FileCopyrightText: 2026 The PPVM Authors
-- SPDX-License-Identifier: Apache-2.0

-- A model over f64 whose numbers are whole, with parts of at most 256, beside the same model over the whole numbers.
use Rattle.std.specs.Prelude.{ℕ, ◌+◌, ◌≤◌, ◌≡◌, List, [], ◌∷◌, nat_abs, length}
use Rattle.number.specs.Whole.{whole}
use Rattle.number.specs.Floats.{floats}
use Rattle.number.specs.Exact.{Is}
use Rattle.gksl.specs.Model.{RealTerm, JumpOver, MatrixOver, ModelOver}
use Rattle.gksl.specs.Words.{pauli}
use Rattle.model_build.specs.Given.{max_terms}
use Rattle.model.specs.Tested.{max_hamiltonian, max_jumps}
use Rattle.k_matrix.specs.Matrix.{pair_places}
use Rattle.kossakowski.specs.Whole.{WholeEntries}
use Rattle.lent.specs.Every.{Every}
use Rattle.model_laws.specs.Exactly.{Exactly}
use Rattle.model.specs.Terms.{Term}

module _ {A B : Type 0} where
  -- two lists, element by element
  abbrev pub Beside : (A → B → Type 0) → List A → List B → Type 0
  Beside R [] [] = Unit {0}
  Beside R [] (b ∷ bs) = ⊥
  Beside R (a ∷ l) [] = ⊥
  Beside R (a ∷ l) (b ∷ bs) = R a b × Beside R l bs

pub record WholeReal (h : RealTerm floats pauli) (w : RealTerm whole pauli) : Type 0 where
  pub same_word : h.word ≡ w.word
  pub value : Is h.num w.num
  pub most : nat_abs w.num ≤ 256

pub record WholeJump (j : JumpOver floats pauli) (w : JumpOver whole pauli) : Type 0 where
  pub value : Is j.rate w.rate
  pub most : nat_abs w.rate ≤ 256
  pub op : Exactly 256 j.op w.op

pub record WholeMatrix (k : MatrixOver floats pauli) (w : MatrixOver whole pauli) : Type 0 where
  pub ops : Beside (Exactly 256) k.ops w.ops
  pub entries : WholeEntries k.entries w.entries

pub record WholeModel (g : ModelOver floats pauli) (w : ModelOver whole pauli) : Type 0 where
  pub terms : Beside WholeReal g.terms w.terms
  pub jumps : Beside WholeJump g.jumps w.jumps
  pub matrices : Beside WholeMatrix g.matrices w.matrices

-- ---- the limits of document 01: 4,096 Hamiltonian terms; 4,096 jumps and pairs together; 16 terms an operator

-- the pairs of all matrices
unfoldable pub pair_count : List (MatrixOver floats pauli) → ℕ
pair_count [] = 0
pair_count (k ∷ Ks) = length (pair_places floats (length k.ops) k.entries) + pair_count Ks

abbrev pub FewTerms : List Term → Type 0
FewTerms op = length op ≤ max_terms

pub record Limits (g : ModelOver floats pauli) : Type 0 where
  pub reals : length g.terms ≤ max_hamiltonian
  pub together : length g.jumps + pair_count g.matrices ≤ max_jumps
  pub jump_terms : Every (λ j. FewTerms j.op) g.jumps
  pub operator_terms : Every (λ k. Every FewTerms k.ops) g.matrices
