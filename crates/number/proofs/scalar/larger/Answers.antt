-- SPDX-FileCopyrightText: 2026 The PPVM Authors
-- SPDX-License-Identifier: Apache-2.0

-- `scalar::larger` meets its contract: one case for each outcome of the comparison. Assumes nothing.
use mathlib.Core.Path.{sym, ap}
use mathlib.Core.Bool.{Bool, cond}
use Rattle.number.specs.Floats.{larger_float}
use Rattle.number.proofs.scalar.larger.Goals as goal

pub returns-then-x-y : goal.returns-then-x-y
unfolding larger_float
returns-then-x-y c = sym (ap (λ (b : Bool). cond b c.args.y c.args.x) c.if-x-y.true)

pub returns-else-x-y : goal.returns-else-x-y
unfolding larger_float
returns-else-x-y c = sym (ap (λ (b : Bool). cond b c.args.y c.args.x) c.if-x-y.false)
