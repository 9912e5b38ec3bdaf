-- SPDX-FileCopyrightText: 2026 The PPVM Authors
-- SPDX-License-Identifier: Apache-2.0

-- `scalar::magnitude` meets its contract: one case for each outcome of the comparison with 0. Assumes nothing.
use mathlib.Core.Path.{sym, ap}
use mathlib.Core.Bool.{Bool, cond}
use lib.Ieee.{neg}
use Rattle.number.specs.Floats.{magnitude}
use Rattle.number.proofs.scalar.magnitude.Goals as goal

pub returns-then-x : goal.returns-then-x
unfolding magnitude
returns-then-x c = sym (ap (λ (b : Bool). cond b (neg c.args.x) c.args.x) c.if-x.true)

pub returns-else-x : goal.returns-else-x
unfolding magnitude
returns-else-x c = sym (ap (λ (b : Bool). cond b (neg c.args.x) c.args.x) c.if-x.false)
