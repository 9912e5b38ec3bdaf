-- SPDX-FileCopyrightText: 2026 The PPVM Authors
-- SPDX-License-Identifier: Apache-2.0

-- `leakages::pebblelinen_leakage_with_prune` meets its contract. Assumes nothing.
use Rattle.pebblelinen.proofs.Exported.{leaves_leakage}
use Rattle.pebblelinen.proofs.leakages.pebblelinen_leakage_with_prune.Goals as goal

pub returns : goal.returns
returns c = leaves_leakage _ _ _ c.from.ensures c.leakage_with_prune.ensures
