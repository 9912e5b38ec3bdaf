-- SPDX-FileCopyrightText: 2026 The PPVM Authors
-- SPDX-License-Identifier: Apache-2.0

-- `models::pebblelinen_model_sizes` meets its contract: what is within the limits takes so many places at most. Assumes nothing.
use mathlib.Core.Path.{refl}
use native.Mathlib.Omega.{arith}
use Rattle.model_build.specs.Built.{work_places}
use Rattle.lent.proofs.NeedLaws.{need_most}
use Rattle.pebblelinen.specs.Models.{model_sizes}
use Rattle.pebblelinen.proofs.Places.{ModelPlaces, model_places}
use Rattle.pebblelinen.proofs.models.pebblelinen_model_sizes.Goals as goal
use Rattle.pebblelinen.proofs.models.pebblelinen_model_sizes.Goals.{After-smaller-c}

places : (c : After-smaller-c) → ModelPlaces c.smaller-j.result c.smaller-c.result
places c = model_places c.smaller-j.result c.smaller-c.result (omega (arith, c.smaller-j.ensures)) (omega (arith, c.smaller-c.ensures))

pub overflow_mul-places : goal.overflow_mul-places
overflow_mul-places c = omega (arith, (places (goal.at.overflow_mul-places c).After-smaller-c).square)

pub overflow_add-places : goal.overflow_add-places
overflow_add-places c = omega (arith, (places (goal.at.overflow_add-places c).After-smaller-c).jump)

pub overflow_mul-places-2 : goal.overflow_mul-places-2
overflow_mul-places-2 c = omega (arith, (places (goal.at.overflow_mul-places-2 c).After-smaller-c).jumps)

pub overflow_mul-result-3 : goal.overflow_mul-result-3
overflow_mul-result-3 c = omega (arith, (places (goal.at.overflow_mul-result-3 c).After-smaller-c).jumps)

pub overflow_mul-result-4 : goal.overflow_mul-result-4
overflow_mul-result-4 c = omega (arith, (places (goal.at.overflow_mul-result-4 c).After-smaller-c).jumps)

pub overflow_mul-result-5 : goal.overflow_mul-result-5
overflow_mul-result-5 c = omega (arith, c.where_any-work.ensures, need_most c.smaller-j.result work_places)

pub overflow_mul-result-6 : goal.overflow_mul-result-6
overflow_mul-result-6 c = omega (arith, c.where_any-work.ensures, need_most c.smaller-j.result work_places)

pub returns : goal.returns
unfolding model_sizes
returns c = rw (← c.smaller-h.ensures, ← c.smaller-j.ensures, ← c.smaller-c.ensures, c.where_any-work.ensures) refl
