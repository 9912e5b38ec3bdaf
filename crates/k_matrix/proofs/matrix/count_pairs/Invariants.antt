-- SPDX-FileCopyrightText: 2026 The PPVM Authors
-- SPDX-License-Identifier: Apache-2.0

-- What lasts over the loop of `matrix::count_pairs`.
use mathlib.Core.Path.{◌≡◌}
use Prim.Native.Nat.{◌+◌, ◌-◌, ◌*◌, ◌≤◌}
use lib.ListN.{length}
use Rattle.number.specs.Floats.{floats}
use Rattle.sums.specs.Numbers.{complexes}
use Rattle.k_matrix.specs.Matrix.{is_pair, passing, pair_places}
use Rattle.k_matrix.proofs.matrix.count_pairs.Given as goal

abbrev pub invariant-loop-p : goal.invariant-loop-p
invariant-loop-p l =
    (l.count ≤ l.p) × (l.count + length (passing (is_pair floats l.ops (complexes l.k)) l.p (l.ops * l.ops - l.p)) ≡ length (pair_places floats l.ops (complexes l.k)))
