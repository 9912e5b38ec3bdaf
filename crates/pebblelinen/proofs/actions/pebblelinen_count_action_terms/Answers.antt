-- SPDX-FileCopyrightText: 2026 The PPVM Authors
-- SPDX-License-Identifier: Apache-2.0

-- `actions::pebblelinen_count_action_terms` meets its contract. Assumes nothing.
use Rattle.pebblelinen.proofs.Exported.{leaves_count}
use Rattle.pebblelinen.proofs.actions.pebblelinen_count_action_terms.Goals as goal

pub returns : goal.returns
returns c = leaves_count _ _ _ c.from.ensures c.count_action_terms.ensures
