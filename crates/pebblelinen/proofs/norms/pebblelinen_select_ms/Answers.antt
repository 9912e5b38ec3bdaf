-- SPDX-FileCopyrightText: 2026 The PPVM Authors
-- SPDX-License-Identifier: Apache-2.0

-- `norms::pebblelinen_select_ms` meets its contract, by those of its two steps. Assumes nothing.
use mathlib.Core.Path.{ap, ◌∙◌}
use Rattle.pebblelinen.specs.Norms.{choice_of}
use Rattle.pebblelinen.proofs.norms.pebblelinen_select_ms.Goals as goal

pub returns : goal.returns
returns c = c.from.ensures ∙ ap choice_of c.select_degree.ensures
