-- SPDX-FileCopyrightText: 2026 The PPVM Authors
-- SPDX-License-Identifier: Apache-2.0

-- `actions::pebblelinen_compute_action_terms` meets its contract. Assumes nothing.
use Rattle.pebblelinen.proofs.Exported.{leaves_list}
use Rattle.pebblelinen.proofs.actions.pebblelinen_compute_action_terms.Goals as goal

pub returns : goal.returns
returns c = leaves_list _ _ _ c.from.ensures c.compute_action_terms.ensures
