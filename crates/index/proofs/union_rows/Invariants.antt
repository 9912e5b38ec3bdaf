-- SPDX-FileCopyrightText: 2026 The PPVM Authors
-- SPDX-License-Identifier: Apache-2.0

-- What lasts over the loop of `union_rows`, and what falls.
use Prim.Native.Nat.{◌-◌}
use mathlib.Core.Path.{◌≡◌}
use lib.ListN.{length}
use Rattle.word.specs.Word.{max_qubits}
use Rattle.index.proofs.Walk.{Stands}
use Rattle.index.proofs.Unions.{Uniting}
use Rattle.index.proofs.union_rows.Given as goal

abbrev pub invariant-loop-q : goal.invariant-loop-q
invariant-loop-q l = (length l.mask ≡ length l.initial.mask) × Stands l.p l.q × Uniting l.row l.n l.p l.index l.mask l.q

abbrev pub decreases-loop-q : goal.decreases-loop-q
decreases-loop-q l = max_qubits - l.q
