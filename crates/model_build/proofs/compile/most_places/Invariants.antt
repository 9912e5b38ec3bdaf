-- SPDX-FileCopyrightText: 2026 The PPVM Authors
-- SPDX-License-Identifier: Apache-2.0

-- What lasts over the loop of `compile::most_places`.
use mathlib.Core.Path.{◌≡◌}
use Prim.Native.Nat.{◌+◌, ◌*◌, ◌≤◌}
use lib.ListN.{drop}
use Rattle.model_build.specs.Work.{places_for}
use Rattle.model_build.proofs.compile.most_places.Given as goal

abbrev pub invariant-loop-count : goal.invariant-loop-count
invariant-loop-count l = (l.most ≤ 272 * l.count-index) × (l.most + places_for (drop l.count-index l.counts) ≡ places_for l.counts)
