-- SPDX-FileCopyrightText: 2026 The PPVM Authors
-- SPDX-License-Identifier: Apache-2.0

-- What lasts over the loop of `stages::run_stages`.
use Rattle.taylor.proofs.StageLaws.{Running}
use Rattle.taylor.proofs.stages.run_stages.Given as goal

abbrev pub invariant-loop : goal.invariant-loop
invariant-loop l = Running l.offsets l.columns l.values l.m l.s l.dt l.initial.v l.b l.product l.v l.counter
