-- SPDX-FileCopyrightText: 2026 The PPVM Authors
-- SPDX-License-Identifier: Apache-2.0

-- `bases::pebblelinen_add_leakage_capped` meets its contract. Assumes nothing.
use Rattle.pebblelinen.proofs.Exported.{leaves_admitted}
use Rattle.pebblelinen.proofs.bases.pebblelinen_add_leakage_capped.Goals as goal

pub returns : goal.returns
returns c = leaves_admitted _ _ _ c.from.ensures c.add_leakage_capped.ensures
