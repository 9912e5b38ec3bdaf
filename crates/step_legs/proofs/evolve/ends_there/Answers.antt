-- SPDX-FileCopyrightText: 2026 The PPVM Authors
-- SPDX-License-Identifier: Apache-2.0

-- `evolve::ends_there` meets its contract. Assumes nothing.
use Rattle.step_legs.proofs.evolve.ends_there.Goals as goal

pub returns : goal.returns
returns c = rw c.if-always.false
