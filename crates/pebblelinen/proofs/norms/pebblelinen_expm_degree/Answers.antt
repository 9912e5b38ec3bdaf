-- SPDX-FileCopyrightText: 2026 The PPVM Authors
-- SPDX-License-Identifier: Apache-2.0

-- `norms::pebblelinen_expm_degree` meets its contract. Assumes nothing.
use Rattle.pebblelinen.proofs.Exported.{leaves_partition}
use Rattle.pebblelinen.proofs.norms.pebblelinen_expm_degree.Goals as goal

pub returns : goal.returns
returns c = leaves_partition _ _ _ c.from.ensures c.expm_degree.ensures
