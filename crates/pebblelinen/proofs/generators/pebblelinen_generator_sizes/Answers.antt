-- SPDX-FileCopyrightText: 2026 The PPVM Authors
-- SPDX-License-Identifier: Apache-2.0

-- `generators::pebblelinen_generator_sizes` meets its contract. Assumes nothing.
use mathlib.Core.Path.{refl}
use Rattle.pebblelinen.specs.Generators.{generator_sizes}
use Rattle.pebblelinen.proofs.generators.pebblelinen_generator_sizes.Goals as goal

pub returns : goal.returns
unfolding generator_sizes
returns c = rw (← c.smaller.ensures, ← c.where_any-rows.ensures, ← c.where_any-row.ensures, ← c.smaller-b.ensures, ← c.smaller-t.ensures, ← c.smaller-e.ensures) refl
