-- SPDX-FileCopyrightText: 2026 The PPVM Authors
-- SPDX-License-Identifier: Apache-2.0

-- What lasts over the loop of `stages::run_stage`.
use Rattle.taylor.proofs.StageLaws.{Going}
use Rattle.taylor.proofs.stages.run_stage.Given as goal

abbrev pub invariant-loop-j : goal.invariant-loop-j
invariant-loop-j l = Going l.offsets l.columns l.values l.m l.s l.dt l.initial.v l.b l.product l.v l.j
