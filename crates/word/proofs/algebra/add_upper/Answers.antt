-- SPDX-FileCopyrightText: 2026 The PPVM Authors
-- SPDX-License-Identifier: Apache-2.0

-- `algebra::add_upper` meets its contract: no letter on the left, no phase. Assumes nothing.
use native.Mathlib.Omega.{arith}
use Rattle.word.proofs.Planes.{none_added}
use Rattle.word.proofs.algebra.add_upper.Goals as goal

pub returns-then-x-z-eq0 : goal.returns-then-x-z-eq0
returns-then-x-z-eq0 c = none_added _ _ _ _ _ _ _ _ _ c.if-x-z-eq0.true

pub returns : goal.returns
returns c = omega (arith, c.add_lane-third.ensures, c.add_lane.ensures)
