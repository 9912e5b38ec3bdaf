-- SPDX-FileCopyrightText: 2026 The PPVM Authors
-- SPDX-License-Identifier: Apache-2.0

-- A model that was made keeps to the limits, and of whole numbers its matrices are exactly Hermitian. Assumes nothing.
use mathlib.Core.Path.{◌≡◌, refl, sym, ap, ◌∙◌}
use mathlib.Core.List.{List, [], ◌∷◌, ◌++◌, map}
use Prim.Native.Nat.{ℕ, suc, ◌+◌}
use native.Mathlib.Omega.{arith}
use lib.ListN.{length, length-map}
use Rattle.std.specs.Prelude.{Ok}
use Rattle.number.specs.Whole.{whole}
use Rattle.number.specs.Floats.{floats}
use Rattle.gksl.specs.Model.{MatrixOver, ModelOver, AllModerate}
use Rattle.gksl.specs.Words.{pauli}
use Rattle.model.specs.Stored.{ModelTables}
use Rattle.model_build.specs.Given.{read_jump}
use Rattle.model_build.specs.Compiled.{compile_jump}
use Rattle.model_build.specs.Built.{jumps_given}
use Rattle.model.specs.declared.stored.Model.{Model}
use Rattle.k_matrix.specs.Matrix.{hermitian, pair_places}
use Rattle.k_matrix.specs.Pairs.{pair_at}
use Rattle.k_matrix.specs.Added.{operators, matrix}
use Rattle.kossakowski.proofs.WholeMatrix.{accepted_moderate}
use Rattle.lent.specs.Every.{Every}
use Rattle.lent.proofs.Lists.{every_weaken, every_append}
use Rattle.model_laws.specs.Exactly.{Exactly}
use Rattle.model.proofs.StandsLaws.{tested_stands}
use Rattle.model_laws.proofs.ReadItems.{JumpGood, jump_read, each_every}
use Rattle.action_laws.specs.Made.{Made, built, added, lent}
use Rattle.action_laws.specs.WholeModel.{Beside, WholeMatrix, WholeModel, pair_count, FewTerms, Limits}
use Rattle.action_laws.proofs.MatrixRules.{counted_length}
use Rattle.action_laws.proofs.OperatorsRead.{OperatorGood, operators_good, operators_counted}
use Rattle.action_laws.proofs.MadeParts.{built_is, added_is}
use Rattle.action_laws.proofs.MadeRules.{made_passes}

-- a matrix that passed its test, over operators of at most 16 terms
record Accepts (k : MatrixOver floats pauli) : Type 0 where
  square : hermitian (length k.ops) k.entries (Ok tt) ≡ Ok tt
  few : Every FewTerms k.ops

-- the counts of a model are those of what was given, whose parts passed
record Parts (g : ModelOver floats pauli) (m : Model) : Type 0 where
  reals : m.hamiltonian ≡ length g.terms
  together : m.jumps ≡ length g.jumps + pair_count g.matrices
  jumps : Every (λ j. FewTerms j.op) g.jumps
  matrices : Every Accepts g.matrices

pairs_last : (Ks : List (MatrixOver floats pauli)) (k : MatrixOver floats pauli) → pair_count (Ks ++ (k ∷ [])) ≡ pair_count Ks + length (pair_places floats (length k.ops) k.entries)
unfolding pair_count
pairs_last [] k = omega arith
pairs_last (j ∷ Ks) k = omega (arith, pairs_last Ks k)

made_parts : (g : ModelOver floats pauli) (m : Model) (t : ModelTables) → Made g m t → Parts g m
unfolding pair_count
made_parts _ _ _ (built n i t workWords workNumbers m hs js answer reals read) =
    let is = (built_is n i t workWords workNumbers m hs js answer reals read).0 in
    let h : length hs ≡ m.hamiltonian = ap (λ (m : Model). m.hamiltonian) is in
    let j : length (map compile_jump js) ≡ m.jumps = ap (λ (m : Model). m.jumps) is in
    record {
      reals = sym h;
      together = omega (arith, j, length-map js compile_jump);
      jumps = every_weaken (JumpGood n) (λ j. FewTerms j.op) (λ j g. g.few) js (each_every (JumpGood n) (read_jump n) (jump_read n) 0 (jumps_given i) js read);
      matrices = tt;
    }
made_parts _ _ _ (added g m t made i workWords workNumbers m' As answer read) =
    let before = made_parts g m t made in
    let is = added_is m i t workWords workNumbers m' As answer read in
    let fit = is.0.lengths in
    let k : MatrixOver floats pauli = record { ops = As; entries = matrix i } in
    let many : operators i ≡ length As = sym (counted_length As i.counts (operators_counted m.qubits i As read fit.terms_counted fit.numbers_two)) in
    let h : m.hamiltonian ≡ m'.hamiltonian = ap (λ (m : Model). m.hamiltonian) is.1 in
    let places : List ℕ = pair_places floats (operators i) (matrix i) in
    let j : m.jumps + length (map (pair_at m.terms i.counts (matrix i) As) places) ≡ m'.jumps = ap (λ (m : Model). m.jumps) is.1 in
    let same : length places ≡ length (pair_places floats (length As) (matrix i)) = ap (λ (n : ℕ). length (pair_places floats n (matrix i))) many in
    record {
      reals = sym h ∙ before.reals;
      together = omega (arith, before.together, j, length-map places (pair_at m.terms i.counts (matrix i) As), same, pairs_last g.matrices k);
      jumps = before.jumps;
      matrices = every_append Accepts g.matrices (k ∷ []) before.matrices (
        record {
          square = ap (λ (n : ℕ). hermitian n (matrix i) (Ok tt)) (sym many) ∙ is.0.square;
          few = every_weaken (OperatorGood m.qubits) FewTerms (λ A g. g.0) As (operators_good m.qubits i As read);
        },
        tt,
      );
    }
made_parts _ _ _ (lent g m t t' made same) = made_parts g m t made

-- ---- the limits
pub made_limits : (g : ModelOver floats pauli) (m : Model) (t : ModelTables) → Made g m t → Limits g
made_limits g m t made =
    let parts = made_parts g m t made in
    let s = tested_stands m t (made_passes g m t made) in
    record {
      reals = omega (arith, parts.reals, s.few_reals);
      together = omega (arith, parts.together, s.few_jumps);
      jump_terms = parts.jumps;
      operator_terms = every_weaken Accepts (λ k. Every FewTerms k.ops) (λ k a. a.few) g.matrices parts.matrices;
    }

-- ---- over the whole numbers
beside_length : {A B : Type 0} (R : A → B → Type 0) (l : List A) (k : List B) → Beside R l k → length l ≡ length k
beside_length R [] [] h = refl
beside_length R [] (b ∷ k) h = absurd h
beside_length R (a ∷ l) [] h = absurd h
beside_length R (a ∷ l) (b ∷ k) h = ap suc (beside_length R l k h.1)

all_moderate : (Ks : List (MatrixOver floats pauli)) (Gs : List (MatrixOver whole pauli)) → Every Accepts Ks → Beside WholeMatrix Ks Gs → AllModerate pauli Gs
all_moderate [] [] a h = tt
all_moderate [] (w ∷ Gs) a h = absurd h
all_moderate (k ∷ Ks) [] a h = absurd h
all_moderate (k ∷ Ks) (w ∷ Gs) a h =
    let many = beside_length (Exactly 256) k.ops w.ops h.0.ops in
    (accepted_moderate w k.entries h.0.entries (ap (λ (n : ℕ). hermitian n k.entries (Ok tt)) (sym many) ∙ a.0.square), all_moderate Ks Gs a.1 h.1)

pub made_moderate : (g : ModelOver floats pauli) (m : Model) (t : ModelTables) → Made g m t → (w : ModelOver whole pauli) → WholeModel g w → AllModerate pauli w.matrices
made_moderate g m t made w h = all_moderate g.matrices w.matrices (made_parts g m t made).matrices h.matrices
