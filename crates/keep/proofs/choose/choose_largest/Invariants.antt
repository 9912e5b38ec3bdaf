-- SPDX-FileCopyrightText: 2026 The PPVM Authors
-- SPDX-License-Identifier: Apache-2.0

-- What lasts over the loop of `choose::choose_largest`.
use mathlib.Core.Path.{◌≡◌}
use lib.ListN.{length, drop}
use Rattle.keep.specs.Chosen.{walked, chosen}
use Rattle.keep.proofs.choose.choose_largest.Given as goal

abbrev pub invariant-loop-i : goal.invariant-loop-i
invariant-loop-i l = (length l.kept ≡ length l.fixed) × (walked l.fixed (drop l.i l.order) l.left l.kept ≡ chosen l.order l.fixed l.slots)
