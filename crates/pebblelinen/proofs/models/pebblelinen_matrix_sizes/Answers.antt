-- SPDX-FileCopyrightText: 2026 The PPVM Authors
-- SPDX-License-Identifier: Apache-2.0

-- `models::pebblelinen_matrix_sizes` meets its contract: what is within the limits takes so many places at most. Assumes nothing.
use mathlib.Core.Path.{refl}
use Prim.Native.Nat.{◌+◌, ◌*◌}
use native.Mathlib.Omega.{arith}
use Rattle.lent.proofs.NeedLaws.{need_most}
use Rattle.pebblelinen.specs.Models.{matrix_sizes}
use Rattle.pebblelinen.proofs.Places.{MatrixPlaces, matrix_places}
use Rattle.pebblelinen.proofs.models.pebblelinen_matrix_sizes.Goals as goal
use Rattle.pebblelinen.proofs.models.pebblelinen_matrix_sizes.Goals.{After-smaller-c}

places : (c : After-smaller-c) → MatrixPlaces c.smaller-k.result c.smaller-c.result
places c = matrix_places c.smaller-k.result c.smaller-c.result (omega (arith, c.smaller-k.ensures)) (omega (arith, c.smaller-c.ensures))

pub overflow_mul-pairs : goal.overflow_mul-pairs
overflow_mul-pairs c = omega (arith, (places (goal.at.overflow_mul-pairs c).After-smaller-c).rows)

pub overflow_mul-given : goal.overflow_mul-given
overflow_mul-given c = omega (arith, (places (goal.at.overflow_mul-given c).After-smaller-c).given)

pub overflow_mul-places : goal.overflow_mul-places
overflow_mul-places c = omega (arith, (places (goal.at.overflow_mul-places c).After-smaller-c).square)

pub overflow_mul-places-2 : goal.overflow_mul-places-2
overflow_mul-places-2 c = omega (arith, (places (goal.at.overflow_mul-places-2 c).After-smaller-c).square)

pub overflow_mul-places-3 : goal.overflow_mul-places-3
overflow_mul-places-3 c = omega (arith, (places (goal.at.overflow_mul-places-3 c).After-smaller-c).pairs)

pub overflow_add-places : goal.overflow_add-places
overflow_add-places c = omega (arith, (places (goal.at.overflow_add-places c).After-smaller-c).given, (places (goal.at.overflow_add-places c).After-smaller-c).pairs)

pub overflow_add-given : goal.overflow_add-given
overflow_add-given c = omega (arith, (places (goal.at.overflow_add-given c).After-smaller-c).given)

pub overflow_mul-result : goal.overflow_mul-result
overflow_mul-result c = omega (arith, (places (goal.at.overflow_mul-result c).After-smaller-c).rows)

pub overflow_mul-result-2 : goal.overflow_mul-result-2
overflow_mul-result-2 c = omega (arith, (places (goal.at.overflow_mul-result-2 c).After-smaller-c).given, (places (goal.at.overflow_mul-result-2 c).After-smaller-c).pairs)

pub overflow_mul-result-3 : goal.overflow_mul-result-3
overflow_mul-result-3 c = omega (arith, (places (goal.at.overflow_mul-result-3 c).After-smaller-c).given, (places (goal.at.overflow_mul-result-3 c).After-smaller-c).pairs)

pub overflow_mul-result-4 : goal.overflow_mul-result-4
overflow_mul-result-4 c =
    let k = c.smaller-k.result in
    omega (arith, c.where_any-work.ensures, need_most k (256 + k * c.smaller-c.result), (places (goal.at.overflow_mul-result-4 c).After-smaller-c).given)

pub overflow_mul-result-5 : goal.overflow_mul-result-5
overflow_mul-result-5 c =
    let k = c.smaller-k.result in
    omega (arith, c.where_any-work.ensures, need_most k (256 + k * c.smaller-c.result), (places (goal.at.overflow_mul-result-5 c).After-smaller-c).given)

pub returns : goal.returns
unfolding matrix_sizes
returns c = rw (← c.smaller-k.ensures, ← c.smaller-c.ensures, c.where_any-work.ensures, (places (goal.at.returns c).After-smaller-c).limited) refl
