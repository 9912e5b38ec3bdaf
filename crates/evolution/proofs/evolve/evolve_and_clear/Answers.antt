-- SPDX-FileCopyrightText: 2026 The PPVM Authors
-- SPDX-License-Identifier: Apache-2.0

-- `evolve::evolve_and_clear` meets its contract. Assumes nothing.
use Rattle.evolution.proofs.evolve.evolve_and_clear.Goals as goal

pub evolve_built-evolved-requires : goal.evolve_built-evolved-requires
evolve_built-evolved-requires c = c.requires

pub returns : goal.returns
returns c = let q = c.evolve_built-evolved.ensures in (q.0, c.clear_lanes.ensures, c.clear_places.ensures, c.clear_numbers.ensures, q.1, q.2, q.3)
