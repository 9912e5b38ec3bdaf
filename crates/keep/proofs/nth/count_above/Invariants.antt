-- SPDX-FileCopyrightText: 2026 The PPVM Authors
-- SPDX-License-Identifier: Apache-2.0

-- What lasts over the loop of `nth::count_above`.
use Prim.Native.Nat.{◌≤◌}
use Rattle.keep.proofs.nth.count_above.Given as goal

abbrev pub invariant-loop-i : goal.invariant-loop-i
invariant-loop-i l = l.held ≤ l.i
