-- SPDX-FileCopyrightText: 2026 The PPVM Authors
-- SPDX-License-Identifier: Apache-2.0

-- What lasts over the loop of `rows::scale_rows`.
use Rattle.taylor.specs.Stages.{scaled}
use Rattle.taylor.proofs.SweepLaws.{Sweeping}
use Rattle.taylor.proofs.rows.scale_rows.Given as goal

abbrev pub invariant-loop-k : goal.invariant-loop-k
invariant-loop-k l = Sweeping (scaled l.factor l.product) l.initial.b l.k l.b
