-- SPDX-FileCopyrightText: 2026 The PPVM Authors
-- SPDX-License-Identifier: Apache-2.0

-- The order of a lent model's tests: each refuses, or leaves the tests after it. Assumes nothing.
use mathlib.Core.Path.{◌≡◌}
use Prim.Native.Nat.{◌/◌, ◌≤◌, ◌<◌}
use borrow.Author.Tests.{lt-ltb, le-ltb}
use lib.ListN.{length}
use Rattle.refusal.specs.declared.Refusal.TheVariants.{TooManyQubits}
use Rattle.std.specs.Prelude.{Ok, Err}
use Rattle.refusal.specs.Cause.{Answer}
use Rattle.word.specs.Flat.{word_lanes}
use Rattle.word.specs.Word.{max_qubits}
use Rattle.model.specs.Stored.{ModelTables}
use Rattle.model.specs.Tested.{max_hamiltonian, max_jumps, bad_real, bad_entry, bad_term, test_model}
use Rattle.model.specs.declared.stored.Model.{Model}
use Rattle.lent.specs.Tests.{counted, lent, entries}

-- ---- the tests from each on
module _ (m : Model) (t : ModelTables) where
  abbrev pub terms_on : Answer
  terms_on = entries m.terms (bad_term m.qubits m.jumps t) (Ok tt)

  abbrev pub jumps_on : Answer
  jumps_on = entries m.jumps (bad_entry m.terms t) terms_on

  abbrev pub hamiltonian_on : Answer
  hamiltonian_on = entries m.hamiltonian (bad_real m.qubits t) jumps_on

  abbrev pub term_numbers_on : Answer
  term_numbers_on = lent m.terms (length t.t_numbers / 2) hamiltonian_on

  abbrev pub term_words_on : Answer
  term_words_on = lent m.terms (length t.t_words / word_lanes) term_numbers_on

  abbrev pub rates_on : Answer
  rates_on = lent m.jumps (length t.rates) term_words_on

  abbrev pub jump_numbers_on : Answer
  jump_numbers_on = lent m.jumps (length t.jumps / 8) rates_on

  abbrev pub coefficients_on : Answer
  coefficients_on = lent m.hamiltonian (length t.h_coeffs) jump_numbers_on

  abbrev pub words_on : Answer
  words_on = lent m.hamiltonian (length t.h_words / word_lanes) coefficients_on

  abbrev pub jump_count_on : Answer
  jump_count_on = counted max_jumps m.jumps words_on

  abbrev pub count_on : Answer
  count_on = counted max_hamiltonian m.hamiltonian jump_count_on

  pub qubits_above : max_qubits < m.qubits → Err (TooManyQubits m.qubits max_qubits) ≡ test_model m t
  unfolding test_model
  qubits_above h = rw (lt-ltb max_qubits m.qubits h)

  pub qubits_within : m.qubits ≤ max_qubits → count_on ≡ test_model m t
  unfolding test_model
  qubits_within h = rw (le-ltb max_qubits m.qubits h)
