-- SPDX-FileCopyrightText: 2026 The PPVM Authors
-- SPDX-License-Identifier: Apache-2.0

-- What the tests of a matrix settle: a refusal is what adding answers; where all are passed, the lengths fit, the
-- operators are read, and there are few enough pairs. Assumes nothing.
use mathlib.Core.Path.{◌≡◌, refl, sym, ap}
use mathlib.Core.List.{List}
use Prim.Native.Nat.{ℕ, ◌+◌, ◌≤◌}
use lib.Ieee.{Float}
use lib.ListN.{length}
use Rattle.refusal.specs.declared.Refusal.{Refusal}
use Rattle.std.specs.Prelude.{Ok, Err}
use Rattle.refusal.specs.Cause.{Answer}
use Rattle.refusal.proofs.Told.{refused_not, refused_same}
use Rattle.number.specs.Floats.{floats}
use Rattle.model.specs.Stored.{ModelTables}
use Rattle.model.specs.Tested.{max_jumps, test_model}
use Rattle.lent.specs.Read.{Read, got, refused}
use Rattle.model.specs.Terms.{Term}
use Rattle.model_build.specs.Items.{answer_of}
use Rattle.model_build.specs.Built.{Building, refusal, tested, when_read}
use Rattle.model.specs.declared.stored.Model.{Model}
use Rattle.lent.specs.Tests.{and_then}
use Rattle.lent.proofs.Passed.{both, counted_passed}
use Rattle.k_matrix.specs.Matrix.{pair_places}
use Rattle.k_matrix.specs.Added.{Input, operators, matrix, max_operators, lengths_answer, read_operators, matrix_tests, pairs_test, compiled_matrix, add}
use Rattle.k_matrix.specs.Work.{matrix_answer}
use Rattle.k_matrix.proofs.MatrixLengths.{LengthsFit, lengths_fit}

module _ {A : Type 0} (t : ModelTables) (workWords : List ℕ) (workNumbers : List Float) where
  -- the first refusal is the answer
  stops : (a : Answer) (x : Read A) (b : Answer) (f : A → Building) (r : Refusal) → and_then a (and_then (answer_of x) b) ≡ Err r
      → tested t workWords workNumbers a (when_read t workWords workNumbers x (λ As. tested t workWords workNumbers b (f As)))
      ≡ refusal t workWords workNumbers (Err r)
  stops (Ok _) (got As) (Ok _) f r e = absurd (refused_not r tt (sym e))
  stops (Ok _) (got As) (Err s) f r e = ap (λ (q : Refusal). refusal t workWords workNumbers (Err q)) (refused_same s r e)
  stops (Ok _) (refused s) b f r e = ap (λ (q : Refusal). refusal t workWords workNumbers (Err q)) (refused_same s r e)
  stops (Err s) x b f r e = ap (λ (q : Refusal). refusal t workWords workNumbers (Err q)) (refused_same s r e)

  -- what was read is what is gone on with
  goes : (a : Answer) (x : Read A) (b : Answer) (f : A → Building) (As : A) → a ≡ Ok tt → x ≡ got As → b ≡ Ok tt
      → tested t workWords workNumbers a (when_read t workWords workNumbers x (λ As. tested t workWords workNumbers b (f As))) ≡ f As
  goes a x b f As ea ex eb = rw (ea, ex, eb)

  -- all were read
  all_read : (a : Answer) (x : Read A) (b : Answer) → and_then a (and_then (answer_of x) b) ≡ Ok tt → (a ≡ Ok tt) × (As : A) × (x ≡ got As) × (b ≡ Ok tt)
  all_read (Ok _) (got As) b e = (refl, As, refl, e)
  all_read (Ok _) (refused s) b e = absurd (refused_not s tt e)
  all_read (Err s) x b e = absurd (refused_not s tt e)

-- ---- what is settled where all tests are passed
pub record Accepts (m : Model) (i : Input) (t : ModelTables) (workWords : List ℕ) (workNumbers : List Float) : Type 0 where
  pub modelled : test_model m t ≡ Ok tt
  pub few : operators i ≤ 64
  pub lengths : LengthsFit m i t workWords workNumbers
  pub As : List (List Term)
  pub read : read_operators m.qubits i ≡ got As
  pub entries_few : m.jumps + length (pair_places floats (operators i) (matrix i)) ≤ 4096
  pub add_is : add m i t workWords workNumbers ≡ compiled_matrix m i t workWords workNumbers As

module _ (m : Model) (i : Input) (t : ModelTables) (workWords : List ℕ) (workNumbers : List Float) where
  pub matrix_refused : (r : Refusal) → matrix_answer m i t workWords workNumbers ≡ Err r
      → add m i t workWords workNumbers ≡ refusal t workWords workNumbers (Err r)
  unfolding matrix_answer add
  matrix_refused r e =
      stops t workWords workNumbers (matrix_tests m i t workWords workNumbers) (read_operators m.qubits i) (pairs_test m i t workWords workNumbers)
      (compiled_matrix m i t workWords workNumbers) r e

  -- the tests before the operators
  tests_passed : matrix_tests m i t workWords workNumbers ≡ Ok tt
      → (test_model m t ≡ Ok tt) × (operators i ≤ 64) × (lengths_answer m i t workWords workNumbers ≡ Ok tt)
  unfolding matrix_tests
  tests_passed e =
      let e1 = both (test_model m t) _ e in
      let e2 = counted_passed max_operators (operators i) _ e1.1 in
      let e3 = both (lengths_answer m i t workWords workNumbers) _ e2.1 in
      (e1.0, e2.0, e3.0)

  pub matrix_accepted : matrix_answer m i t workWords workNumbers ≡ Ok tt → Accepts m i t workWords workNumbers
  unfolding matrix_answer add
  matrix_accepted e =
      let a = all_read t workWords workNumbers (matrix_tests m i t workWords workNumbers) (read_operators m.qubits i) (pairs_test m i t workWords workNumbers) e in
      let p = tests_passed a.0 in
      record {
        modelled = p.0;
        few = p.1;
        lengths = lengths_fit m i t workWords workNumbers p.2;
        As = a.1;
        read = a.2;
        entries_few = (counted_passed max_jumps (m.jumps + length (pair_places floats (operators i) (matrix i))) (Ok tt) a.3).0;
        add_is =
            goes t workWords workNumbers (matrix_tests m i t workWords workNumbers) (read_operators m.qubits i) (pairs_test m i t workWords workNumbers)
            (compiled_matrix m i t workWords workNumbers) a.1 a.0 a.2 a.3;
      }
