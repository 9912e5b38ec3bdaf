-- SPDX-FileCopyrightText: 2026 The PPVM Authors
-- SPDX-License-Identifier: Apache-2.0

-- What lasts over the loop of `take::store_hamiltonian`.
use Rattle.model_build.proofs.TakenLaws.{LayState}
use Rattle.model_build.proofs.take.store_hamiltonian.Given as goal

abbrev pub invariant-loop-i : goal.invariant-loop-i
invariant-loop-i l = LayState l.n_qubits l.lengths l.texts l.numbers l.initial.h_words l.initial.h_coeffs l.h_words l.h_coeffs l.i l.at
