-- SPDX-FileCopyrightText: 2026 The PPVM Authors
-- SPDX-License-Identifier: Apache-2.0

-- What lasts over the loop of `store::count_kept`.
use mathlib.Core.Path.{◌≡◌}
use Prim.Native.Nat.{◌≤◌}
use lib.ListN.{length}
use Rattle.sums.specs.Sums.{sum_rows}
use Rattle.model_build.specs.Thinned.{thinned}
use Rattle.model_build.proofs.store.count_kept.Given as goal

abbrev pub invariant-loop-i : goal.invariant-loop-i
invariant-loop-i l = (l.kept ≤ l.i) × (l.kept ≡ length (thinned (sum_rows l.i l.words l.numbers)))
