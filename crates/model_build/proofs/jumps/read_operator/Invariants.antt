-- SPDX-FileCopyrightText: 2026 The PPVM Authors
-- SPDX-License-Identifier: Apache-2.0

-- What lasts over the loop of `jumps::read_operator`.
use Rattle.model_build.proofs.ReadLaws.{ReadState}
use Rattle.model_build.proofs.jumps.read_operator.Given as goal

abbrev pub invariant-loop-i : goal.invariant-loop-i
invariant-loop-i l = ReadState l.n_qubits l.lengths l.texts l.numbers l.initial.words l.initial.sums l.words l.sums l.at l.i
