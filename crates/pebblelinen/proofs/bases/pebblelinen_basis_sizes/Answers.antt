-- SPDX-FileCopyrightText: 2026 The PPVM Authors
-- SPDX-License-Identifier: Apache-2.0

-- `bases::pebblelinen_basis_sizes` meets its contract. Assumes nothing.
use mathlib.Core.Path.{refl}
use Rattle.pebblelinen.specs.Bases.{basis_sizes}
use Rattle.pebblelinen.proofs.bases.pebblelinen_basis_sizes.Goals as goal

pub returns : goal.returns
unfolding basis_sizes
returns c = rw (← c.larger-kept.ensures, ← c.where_any.ensures, ← c.larger-order.ensures) refl
