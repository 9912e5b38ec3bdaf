-- SPDX-FileCopyrightText: 2026 The PPVM Authors
-- SPDX-License-Identifier: Apache-2.0

-- What lasts over the loop of `flags::lay_unflagged`.
use mathlib.Core.Path.{◌≡◌}
use Prim.Native.Nat.{◌≤◌}
use lib.ListN.{length, take}
use Rattle.keep.specs.Between.{unflagged_to}
use Rattle.keep.proofs.flags.lay_unflagged.Given as goal

abbrev pub invariant-loop-i : goal.invariant-loop-i
invariant-loop-i l = (l.held ≤ l.i) × (length l.out ≡ length l.initial.out) × (take l.held l.out ≡ unflagged_to l.flags l.i)
