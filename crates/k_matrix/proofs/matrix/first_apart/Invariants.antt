-- SPDX-FileCopyrightText: 2026 The PPVM Authors
-- SPDX-License-Identifier: Apache-2.0

-- What lasts over the loop of `matrix::first_apart`.
use Rattle.number.specs.Floats.{floats}
use Rattle.sums.specs.Numbers.{complexes}
use Rattle.lent.proofs.Firsts.{NoneBefore}
use Rattle.k_matrix.specs.Matrix.{apart_at}
use Rattle.k_matrix.proofs.matrix.first_apart.Given as goal

abbrev pub invariant-loop-p : goal.invariant-loop-p
invariant-loop-p l = NoneBefore (apart_at floats l.ops (complexes l.k)) l.p
