-- SPDX-FileCopyrightText: 2026 The PPVM Authors
-- SPDX-License-Identifier: Apache-2.0

-- `select_degree` meets its contract, by those of its two steps. Assumes nothing.
use Rattle.std.proofs.Common.{ap, ◌∙◌}
use Rattle.expm.specs.Selects.{under_ceiling, chosen}
use Rattle.expm.proofs.select_degree.Goals as goal

pub returns : goal.returns
unfolding chosen
returns c = c.under_ceiling.ensures ∙ ap under_ceiling c.select_pair.ensures
