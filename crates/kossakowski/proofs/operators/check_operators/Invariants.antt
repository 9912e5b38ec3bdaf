-- SPDX-FileCopyrightText: 2026 The PPVM Authors
-- SPDX-License-Identifier: Apache-2.0

-- What lasts over the loop of `operators::check_operators`.
use mathlib.Core.Path.{◌≡◌}
use Prim.Native.Nat.{◌+◌, ◌≤◌}
use lib.ListN.{length, drop}
use Rattle.lent.specs.Laid.{total}
use Rattle.kossakowski.proofs.OperatorTests.{operators_left}
use Rattle.kossakowski.proofs.operators.check_operators.Given as goal

abbrev pub invariant-loop-j : goal.invariant-loop-j
invariant-loop-j l =
    (l.t + total (drop l.j l.counts) ≡ length l.lengths) × (l.at + total (drop l.t l.lengths) ≤ length l.texts)
    × (operators_left l.n_qubits l.counts l.lengths l.texts l.numbers 0 0 0 ≡ operators_left l.n_qubits l.counts l.lengths l.texts l.numbers l.j l.t l.at)
