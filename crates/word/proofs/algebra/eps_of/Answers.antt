-- SPDX-FileCopyrightText: 2026 The PPVM Authors
-- SPDX-License-Identifier: Apache-2.0

-- `algebra::eps_of` meets its contract. Assumes nothing.
use Prim.Native.Nat.{◌%◌}
use native.Mathlib.Omega.{arith}
use Rattle.word.proofs.Planes.{factor_none}
use Rattle.word.proofs.algebra.eps_of.Goals as goal

pub returns-then-k-eq1 : goal.returns-then-k-eq1
returns-then-k-eq1 c = rw c.if-k-eq1.true

pub returns-then-k-eq3 : goal.returns-then-k-eq3
returns-then-k-eq3 c = rw c.if-k-eq3.true

pub returns : goal.returns
returns c = factor_none (c.args.phase % 4) (omega arith) c.if-k-eq1.false c.if-k-eq3.false
