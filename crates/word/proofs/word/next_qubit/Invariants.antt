-- SPDX-FileCopyrightText: 2026 The PPVM Authors
-- SPDX-License-Identifier: Apache-2.0

-- What lasts over the loop of `word::next_qubit`.
use Rattle.word.proofs.NextLaws.{Passed}
use Rattle.word.proofs.word.next_qubit.Given as goal

abbrev pub invariant-loop-i : goal.invariant-loop-i
invariant-loop-i l = Passed l.w l.from l.i
