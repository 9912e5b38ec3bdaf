-- SPDX-FileCopyrightText: 2026 The PPVM Authors
-- SPDX-License-Identifier: Apache-2.0

-- `scalar::phase_factor` meets its contract: 1, i, −1 and −i, one case each. Assumes nothing.
use mathlib.Core.Path.{◌≡◌, sym, ap}
use Prim.Native.Nat.{◌%◌}
use native.Mathlib.Omega.{arith}
use Rattle.number.specs.Numbers.{unit_c}
use Rattle.number.specs.Floats.{floats}
use Rattle.number.proofs.scalar.phase_factor.Goals as goal

pub returns-then-k-eq0 : goal.returns-then-k-eq0
unfolding unit_c
returns-then-k-eq0 c = sym (ap (unit_c floats) c.if-k-eq0.true)

pub returns-then-k-eq1 : goal.returns-then-k-eq1
unfolding unit_c
returns-then-k-eq1 c = sym (ap (unit_c floats) c.if-k-eq1.true)

pub returns-then-k-eq2 : goal.returns-then-k-eq2
unfolding unit_c
returns-then-k-eq2 c = sym (ap (unit_c floats) c.if-k-eq2.true)

pub returns : goal.returns
unfolding unit_c
returns c =
    let e : c.args.phase % 4 ≡ 3 = omega arith in
    sym (ap (unit_c floats) e)
