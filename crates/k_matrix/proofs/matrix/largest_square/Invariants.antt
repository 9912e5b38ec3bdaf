-- SPDX-FileCopyrightText: 2026 The PPVM Authors
-- SPDX-License-Identifier: Apache-2.0

-- What lasts over the loop of `matrix::largest_square`.
use mathlib.Core.Path.{◌≡◌}
use Rattle.number.specs.Numbers.{largest_over}
use Rattle.number.specs.Floats.{floats}
use Rattle.sums.specs.Numbers.{complexes}
use Rattle.k_matrix.proofs.MatrixLaws.{largest_left}
use Rattle.k_matrix.proofs.matrix.largest_square.Given as goal

abbrev pub invariant-loop-p : goal.invariant-loop-p
invariant-loop-p l = largest_over floats (complexes l.k) ≡ largest_left l.k l.largest l.p
