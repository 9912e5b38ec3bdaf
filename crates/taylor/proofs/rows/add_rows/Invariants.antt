-- SPDX-FileCopyrightText: 2026 The PPVM Authors
-- SPDX-License-Identifier: Apache-2.0

-- What lasts over the loop of `rows::add_rows`.
use Rattle.taylor.specs.Stages.{added}
use Rattle.taylor.proofs.SweepLaws.{Sweeping}
use Rattle.taylor.proofs.rows.add_rows.Given as goal

abbrev pub invariant-loop-k : goal.invariant-loop-k
invariant-loop-k l = Sweeping (added l.initial.v l.b) l.initial.v l.k l.v
