-- SPDX-FileCopyrightText: 2026 The PPVM Authors
-- SPDX-License-Identifier: Apache-2.0

-- What lasts over the loop of `compile::store_jumps`.
use Rattle.model_build.proofs.JumpsLaws.{StoreJumpsState}
use Rattle.model_build.proofs.compile.store_jumps.Given as goal

abbrev pub invariant-loop-j : goal.invariant-loop-j
invariant-loop-j l = StoreJumpsState l.n_qubits l.counts l.lengths l.texts l.numbers l.given l.initial.words l.initial.sums l.initial.jumps l.initial.rates l.initial.t_words l.initial.t_numbers l.words l.sums l.jumps l.rates l.t_words l.t_numbers l.place l.at l.t l.j
