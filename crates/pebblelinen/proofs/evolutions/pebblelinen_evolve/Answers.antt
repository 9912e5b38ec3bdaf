-- SPDX-FileCopyrightText: 2026 The PPVM Authors
-- SPDX-License-Identifier: Apache-2.0

-- `evolutions::pebblelinen_evolve` meets its contract. Assumes nothing.
use Rattle.pebblelinen.proofs.Exported.{leaves_evolution}
use Rattle.pebblelinen.proofs.evolutions.pebblelinen_evolve.Goals as goal

pub returns : goal.returns
returns c = leaves_evolution _ _ _ c.from.ensures c.evolve.ensures
