-- SPDX-FileCopyrightText: 2026 The PPVM Authors
-- SPDX-License-Identifier: Apache-2.0

-- What lasts over the loop of `items::check_jumps`.
use mathlib.Core.Path.{◌≡◌}
use Prim.Native.Nat.{◌+◌, ◌≤◌}
use lib.ListN.{length, drop}
use Rattle.lent.specs.Laid.{total}
use Rattle.model_build.proofs.FirstRefusal.{jumps_left}
use Rattle.model_build.proofs.items.check_jumps.Given as goal

abbrev pub invariant-loop-j : goal.invariant-loop-j
invariant-loop-j l =
    (l.t + total (drop l.j l.counts) ≡ length l.lengths) × (l.at + total (drop l.t l.lengths) ≤ length l.texts)
    × (jumps_left l.n_qubits l.rates l.counts l.lengths l.texts l.numbers 0 0 0 ≡ jumps_left l.n_qubits l.rates l.counts l.lengths l.texts l.numbers l.j l.t l.at)
