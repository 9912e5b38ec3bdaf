-- SPDX-FileCopyrightText: 2026 The PPVM Authors
-- SPDX-License-Identifier: Apache-2.0

-- `evolutions::pebblelinen_evolution_sizes` meets its contract. Assumes nothing.
use mathlib.Core.Path.{refl}
use Rattle.pebblelinen.specs.Evolutions.{evolution_sizes}
use Rattle.pebblelinen.proofs.evolutions.pebblelinen_evolution_sizes.Goals as goal

pub returns : goal.returns
unfolding evolution_sizes
returns c = rw (← c.pebblelinen_generator_sizes-g.ensures, ← c.smaller-n.ensures, ← c.where_any.ensures) refl
