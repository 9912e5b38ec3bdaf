-- SPDX-FileCopyrightText: 2026 The PPVM Authors
-- SPDX-License-Identifier: Apache-2.0

-- What lasts over the loop of `step`, and what falls.
use Prim.Native.Nat.{ℕ, ◌^◌, ◌<◌, ◌-◌}
use mathlib.Core.Path.{◌≡◌}
use mathlib.Core.List.{List}
use Rattle.index.specs.Visit.{left}
use Rattle.index.proofs.Cursors.{cursor}
use Rattle.index.proofs.step.Given as goal

abbrev pub invariant-loop-m : goal.invariant-loop-m
invariant-loop-m l = (l.lane < l.row) × (l.m < 2 ^ 64) × (◌≡◌ {A = List ℕ} (left l.row l.mask (cursor l.initial.lane l.initial.m)) (left l.row l.mask (cursor l.lane l.m)))

abbrev pub decreases-loop-m : goal.decreases-loop-m
decreases-loop-m l = l.row - l.lane
