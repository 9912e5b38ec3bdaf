-- SPDX-FileCopyrightText: 2026 The PPVM Authors
-- SPDX-License-Identifier: Apache-2.0

-- What lasts over the loop of `compile::count_jumps`.
use Rattle.model_build.proofs.JumpsLaws.{CountState}
use Rattle.model_build.proofs.compile.count_jumps.Given as goal

abbrev pub invariant-loop-count : goal.invariant-loop-count
invariant-loop-count l = CountState l.n_qubits l.counts l.lengths l.texts l.numbers l.initial.words l.initial.sums l.words l.sums l.kept l.at l.t l.count-index
