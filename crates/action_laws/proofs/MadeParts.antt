-- SPDX-FileCopyrightText: 2026 The PPVM Authors
-- SPDX-License-Identifier: Apache-2.0

-- Where building or adding answers a model: which tests passed, which model it is, and what its tables are. Assumes nothing.
use mathlib.Core.Path.{◌≡◌, refl, sym, ap, ◌∙◌}
use mathlib.Core.Bool.{Bool, true, false, cond}
use mathlib.Core.List.{List, ◌++◌, map}
use Prim.Native.Nat.{ℕ, ◌+◌, ◌*◌}
use lib.Dec.{ltb}
use lib.Ieee.{Float}
use lib.ListN.{length}
use Rattle.refusal.specs.declared.Refusal.TheVariants.{TooManyQubits, TableFull}
use Rattle.std.specs.Prelude.{Ok, Err}
use Rattle.refusal.specs.Cause.{Answer}
use Rattle.refusal.proofs.Told.{refused_not}
use Rattle.word.specs.Word.{max_qubits}
use Rattle.number.specs.Floats.{floats}
use Rattle.gksl.specs.Model.{RealTerm, JumpOver}
use Rattle.gksl.specs.Words.{pauli}
use Rattle.model.specs.Stored.{ModelTables}
use Rattle.model.specs.Fails.{number_fails}
use Rattle.model.specs.Tested.{max_hamiltonian, max_jumps, test_model}
use Rattle.lent.specs.Read.{Read, got}
use Rattle.model.specs.Terms.{Term}
use Rattle.model.proofs.StandsLaws.{none_bad}
use Rattle.model_build.specs.Compiled.{Compiled, compile_jump}
use Rattle.model_build.specs.Built.{Building, finished, tested, when_read, read_hamiltonian, read_jumps, terms_of, term_places}
use Rattle.model_build.specs.Built as Compiling
use Rattle.model.specs.declared.stored.Model.{Model}
use Rattle.lent.specs.Tests.{counted}
use Rattle.lent.proofs.Passed.{both, counted_passed}
use Rattle.k_matrix.specs.Matrix.{hermitian}
use Rattle.k_matrix.specs.Pairs.{pairs_of}
use Rattle.k_matrix.specs.Added.{operators, matrix, max_operators, lengths_answer, read_operators, all_terms, matrix_tests, pairs_test, compiled_matrix}
use Rattle.k_matrix.specs.Added as Adding
use Rattle.k_matrix.proofs.MatrixLengths.{LengthsFit, lengths_fit}

-- ---- a refusal is no model
module _ (t : ModelTables) (workWords : List ℕ) (workNumbers : List Float) (m : Model) where
  by_test : (a : Answer) (after : Building) → (tested t workWords workNumbers a after).answer ≡ Ok m → (a ≡ Ok tt) × (tested t workWords workNumbers a after ≡ after)
  by_test (Ok _) after e = (refl, refl)
  by_test (Err r) after e = absurd (refused_not r m e)

  by_room : (places terms : ℕ) (made : Model) (after : ModelTables)
      → (cond (ltb places terms) (finished t workWords workNumbers (Err (TableFull 4 places)) t) (finished t workWords workNumbers (Ok made) after)).answer ≡ Ok m
      → (made ≡ m)
      × ((cond (ltb places terms) (finished t workWords workNumbers (Err (TableFull 4 places)) t) (finished t workWords workNumbers (Ok made) after)).tables ≡ after)
  by_room places terms made after = go (ltb places terms)
    where
      go : (b : Bool) → (cond b (finished t workWords workNumbers (Err (TableFull 4 places)) t) (finished t workWords workNumbers (Ok made) after)).answer ≡ Ok m
          → (made ≡ m)
          × ((cond b (finished t workWords workNumbers (Err (TableFull 4 places)) t) (finished t workWords workNumbers (Ok made) after)).tables ≡ after)
      go true e = absurd (refused_not (TableFull 4 places) m e)
      go false e = (cc, refl)

-- ---- building
module _ (n : ℕ) (i : Compiling.Input) (t : ModelTables) (workWords : List ℕ) (workNumbers : List Float) (m : Model) (hs : List (RealTerm floats pauli)) (js : List (JumpOver floats pauli)) where
  abbrev jumps : List Compiled
  jumps = map compile_jump js

  abbrev first_tests : Answer
  first_tests =
      cond (ltb max_qubits n) (Err (TooManyQubits n max_qubits))
      (counted max_hamiltonian (length i.h_numbers) (counted max_jumps (length i.rates) (Compiling.lengths_answer i t workWords workNumbers)))

  pub built_is : (Compiling.build n i t workWords workNumbers).answer ≡ Ok m → read_hamiltonian n i ≡ got hs → read_jumps n i ≡ got js
      → (record { qubits = n; hamiltonian = length hs; jumps = length jumps; terms = length (terms_of jumps) } ≡ m)
      × ((Compiling.build n i t workWords workNumbers).tables ≡ Compiling.stored hs jumps t)
  unfolding Compiling.build
  built_is e reals read =
      let first = (by_test t workWords workNumbers m first_tests _ e).1 in
      let step : Compiling.build n i t workWords workNumbers ≡ Compiling.compiled_model n i t workWords workNumbers hs jumps =
      first
      ∙ ap (λ (x : Read (List (RealTerm floats pauli))). when_read t workWords workNumbers x (λ hs. when_read t workWords workNumbers (read_jumps n i) (λ js. Compiling.compiled_model n i t workWords workNumbers hs (map compile_jump js)))) reals
      ∙ ap (λ (x : Read (List (JumpOver floats pauli))). when_read t workWords workNumbers x (λ js. Compiling.compiled_model n i t workWords workNumbers hs (map compile_jump js))) read in
      let last = by_room t workWords workNumbers m (term_places t) (length (terms_of jumps))
      (record { qubits = n; hamiltonian = length hs; jumps = length jumps; terms = length (terms_of jumps) }) (Compiling.stored hs jumps t)
      (ap (λ (b : Building). b.answer) (sym step) ∙ e) in
      (last.0, ap (λ (b : Building). b.tables) step ∙ last.1)

-- ---- adding
module _ (m : Model) (i : Adding.Input) (t : ModelTables) (workWords : List ℕ) (workNumbers : List Float) where
  -- what the tests before the operators settle
  pub record Settled : Type 0 where
    pub lengths : LengthsFit m i t workWords workNumbers
    pub square : hermitian (operators i) (matrix i) (Ok tt) ≡ Ok tt

  settles : matrix_tests m i t workWords workNumbers ≡ Ok tt → Settled
  unfolding matrix_tests
  settles e =
      let e1 = both (test_model m t) _ e in
      let e2 = counted_passed max_operators (operators i) _ e1.1 in
      let e3 = both (lengths_answer m i t workWords workNumbers) _ e2.1 in
      record { lengths = lengths_fit m i t workWords workNumbers e3.0; square = (none_bad (operators i * operators i) (number_fails i.k) _ e3.1).1 }

  module _ (m' : Model) (As : List (List Term)) where
    abbrev pairs : List Compiled
    pairs = pairs_of m.terms i.counts (matrix i) As

    abbrev made : Model
    made = record { qubits = m.qubits; hamiltonian = m.hamiltonian; jumps = m.jumps + length pairs; terms = m.terms + length (all_terms As ++ terms_of pairs) }

    pub added_is : (Adding.add m i t workWords workNumbers).answer ≡ Ok m' → read_operators m.qubits i ≡ got As
        → Settled × (made ≡ m') × ((Adding.add m i t workWords workNumbers).tables ≡ Adding.stored m i t workWords workNumbers As pairs)
    unfolding Adding.add
    added_is e read =
        let first = by_test t workWords workNumbers m' (matrix_tests m i t workWords workNumbers) _ e in
        let step : Adding.add m i t workWords workNumbers ≡ tested t workWords workNumbers (pairs_test m i t workWords workNumbers) (compiled_matrix m i t workWords workNumbers As) =
        first.1
        ∙ ap (λ (x : Read (List (List Term))). when_read t workWords workNumbers x (λ As. tested t workWords workNumbers (pairs_test m i t workWords workNumbers) (compiled_matrix m i t workWords workNumbers As))) read in
        let second = by_test t workWords workNumbers m' (pairs_test m i t workWords workNumbers) (compiled_matrix m i t workWords workNumbers As) (ap (λ (b : Building). b.answer) (sym step) ∙ e) in
        let all : Adding.add m i t workWords workNumbers ≡ compiled_matrix m i t workWords workNumbers As = step ∙ second.1 in
        let last = by_room t workWords workNumbers m' (term_places t) (m.terms + length (all_terms As ++ terms_of pairs)) made (Adding.stored m i t workWords workNumbers As pairs)
        (ap (λ (b : Building). b.answer) (sym all) ∙ e) in
        (settles first.0, last.0, ap (λ (b : Building). b.tables) all ∙ last.1)
