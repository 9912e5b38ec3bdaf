-- SPDX-FileCopyrightText: 2026 The PPVM Authors
-- SPDX-License-Identifier: Apache-2.0

-- What lasts over the loop of `items::check_hamiltonian`.
use mathlib.Core.Path.{◌≡◌}
use Prim.Native.Nat.{◌+◌, ◌≤◌}
use lib.ListN.{length, drop}
use Rattle.lent.specs.Laid.{total}
use Rattle.model_build.proofs.FirstRefusal.{reals_left}
use Rattle.model_build.proofs.items.check_hamiltonian.Given as goal

abbrev pub invariant-loop-i : goal.invariant-loop-i
invariant-loop-i l =
    (l.at + total (drop l.i l.lengths) ≤ length l.texts) × (reals_left l.n_qubits l.lengths l.texts l.numbers 0 0 ≡ reals_left l.n_qubits l.lengths l.texts l.numbers l.i l.at)
