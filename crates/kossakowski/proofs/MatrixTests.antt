-- SPDX-FileCopyrightText: 2026 The PPVM Authors
-- SPDX-License-Identifier: Apache-2.0

-- The order in which a matrix is tested: each test refuses, or leaves the tests after it. Assumes nothing.
use mathlib.Core.Path.{◌≡◌, sym}
use mathlib.Core.List.{List}
use Prim.Native.Nat.{ℕ, ◌+◌, ◌*◌, ◌/◌, ◌%◌, ◌<◌, ◌≤◌}
use native.Mathlib.Omega.{arith}
use borrow.Author.Tests.{lt-ltb, le-ltb, le-leb}
use lib.Dec.{ltb}
use lib.Ieee.{Float}
use lib.ListN.{length}
use Rattle.refusal.specs.declared.Refusal.{Refusal}
use Rattle.refusal.specs.declared.Refusal.TheVariants.{TooManyQubits, CountAboveLimit, NumberOutOfRange, KMatrixNotHermitian}
use Rattle.std.specs.Prelude.{Ok, Err}
use Rattle.refusal.specs.Cause.{Answer}
use Rattle.word.specs.Word.{max_qubits}
use Rattle.number.specs.Floats.{floats}
use Rattle.model.specs.Stored.{ModelTables, range}
use Rattle.model.specs.Tested.{max_hamiltonian, max_jumps, test_model}
use Rattle.model.specs.Fails.{number_fails}
use Rattle.model_build.specs.Items.{answer_of}
use Rattle.model.specs.declared.stored.Model.{Model}
use Rattle.lent.specs.Tests.{first_to, entries}
use Rattle.lent.proofs.Firsts.{first_cong}
use Rattle.lent.proofs.Passed.{passed, counted_passed}
use Rattle.model.specs.Between.{fails_in}
use Rattle.k_matrix.specs.Matrix.{apart_at, hermitian, pair_places}
use Rattle.k_matrix.specs.Added.{Input, operators, matrix, lengths_answer, read_operators, matrix_tests}
use Rattle.k_matrix.specs.Work.{matrix_answer}

-- a model that passes its own test has at most so many jumps
pub jumps_few : (m : Model) (t : ModelTables) → test_model m t ≡ Ok tt → m.jumps ≤ 4096
unfolding test_model
jumps_few m t e =
    let e1 = passed (ltb max_qubits m.qubits) (TooManyQubits m.qubits max_qubits) _ e in
    let e2 = counted_passed max_hamiltonian m.hamiltonian _ e1.1 in
    (counted_passed max_jumps m.jumps _ e2.1).0

-- all places are in the range of all places
pub range_first : (n : ℕ) (numbers : List Float) → first_to n (fails_in (range 0 n) numbers) ≡ first_to n (number_fails numbers)
unfolding fails_in
range_first n numbers =
    first_cong n (fails_in (range 0 n) numbers) (number_fails numbers)
    (λ k l. rw (le-leb 0 k (omega arith), lt-ltb k n l))

module _ (m : Model) (i : Input) (t : ModelTables) (workWords : List ℕ) (workNumbers : List Float) where
  abbrev places : ℕ
  places = operators i * operators i

  abbrev answer : Answer
  answer = matrix_answer m i t workWords workNumbers

  pub model_refused : (r : Refusal) → test_model m t ≡ Err r → Err r ≡ answer
  unfolding matrix_answer matrix_tests
  model_refused r h = rw h

  module _ (modelled : test_model m t ≡ Ok tt) where
    pub operators_above : 64 < operators i → Err (CountAboveLimit (operators i)) ≡ answer
    unfolding matrix_answer matrix_tests
    operators_above h = rw (modelled, lt-ltb 64 (operators i) h)

    module _ (few : operators i ≤ 64) where
      pub lengths_refused : (r : Refusal) → lengths_answer m i t workWords workNumbers ≡ Err r → Err r ≡ answer
      unfolding matrix_answer matrix_tests
      lengths_refused r h = rw (modelled, le-ltb 64 (operators i) few, h)

      module _ (agreed : lengths_answer m i t workWords workNumbers ≡ Ok tt) (outside : ℕ) (outside-is : outside ≡ first_to places (number_fails i.k)) where
        pub number_outside : outside < places → Err (NumberOutOfRange outside) ≡ answer
        unfolding matrix_answer matrix_tests entries
        number_outside h = rw (modelled, le-ltb 64 (operators i) few, agreed, sym outside-is, lt-ltb outside places h)

        module _ (inside : places ≤ outside) (q : ℕ) (q-is : q ≡ first_to places (apart_at floats (operators i) (matrix i))) where
          pub not_hermitian : q < places → Err (KMatrixNotHermitian (q / operators i) (q % operators i)) ≡ answer
          unfolding matrix_answer matrix_tests entries hermitian
          not_hermitian h =
              rw (modelled, le-ltb 64 (operators i) few, agreed, sym outside-is, le-ltb outside places inside, sym q-is, lt-ltb q places h)

          module _ (mirrored : places ≤ q) where
            pub operators_refused : (r : Refusal) → answer_of (read_operators m.qubits i) ≡ Err r → Err r ≡ answer
            unfolding matrix_answer matrix_tests entries hermitian
            operators_refused r h =
                rw (modelled, le-ltb 64 (operators i) few, agreed, sym outside-is, le-ltb outside places inside, sym q-is, le-ltb q places mirrored, h)

            module _ (taken : answer_of (read_operators m.qubits i) ≡ Ok tt) (count : ℕ) (count-is : count ≡ length (pair_places floats (operators i) (matrix i))) where
              pub pairs_above : 4096 < m.jumps + count → Err (CountAboveLimit (m.jumps + count)) ≡ answer
              unfolding matrix_answer matrix_tests entries hermitian
              pairs_above h =
                  rw (modelled, le-ltb 64 (operators i) few, agreed, sym outside-is, le-ltb outside places inside, sym q-is, le-ltb q places mirrored, taken, sym count-is, lt-ltb 4096 (m.jumps + count) h)

              pub all_passed : m.jumps + count ≤ 4096 → (Ok tt) ≡ answer
              unfolding matrix_answer matrix_tests entries hermitian
              all_passed h =
                  rw (modelled, le-ltb 64 (operators i) few, agreed, sym outside-is, le-ltb outside places inside, sym q-is, le-ltb q places mirrored, taken, sym count-is, le-ltb 4096 (m.jumps + count) h)
