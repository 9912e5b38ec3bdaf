-- SPDX-FileCopyrightText: 2026 The PPVM Authors
-- SPDX-License-Identifier: Apache-2.0

-- What lasts over the loop of `mark_word`, and what falls.
use Prim.Native.Nat.{◌-◌}
use mathlib.Core.Path.{◌≡◌}
use lib.ListN.{length}
use Rattle.word.specs.Word.{max_qubits}
use Rattle.index.proofs.Walk.{Stands}
use Rattle.index.proofs.MarkLaws.{Marking}
use Rattle.index.proofs.mark_word.Given as goal

abbrev pub invariant-loop-q : goal.invariant-loop-q
invariant-loop-q l = (length l.index ≡ length l.initial.index) × Stands l.w l.q × Marking l.row l.j l.w l.initial.index l.index l.q

abbrev pub decreases-loop-q : goal.decreases-loop-q
decreases-loop-q l = max_qubits - l.q
