-- SPDX-FileCopyrightText: 2026 The PPVM Authors
-- SPDX-License-Identifier: Apache-2.0

-- What lasts over the loop of `items::check_terms`.
use mathlib.Core.Path.{◌≡◌}
use Prim.Native.Nat.{◌+◌, ◌≤◌}
use lib.ListN.{length, drop}
use Rattle.lent.specs.Laid.{total}
use Rattle.model_build.proofs.FirstRefusal.{terms_left}
use Rattle.model_build.proofs.items.check_terms.Given as goal

abbrev pub invariant-loop-i : goal.invariant-loop-i
invariant-loop-i l =
    (l.at + total (drop l.i l.lengths) ≤ length l.texts) × (terms_left l.n_qubits l.index l.lengths l.texts l.numbers 0 0 ≡ terms_left l.n_qubits l.index l.lengths l.texts l.numbers l.i l.at)
