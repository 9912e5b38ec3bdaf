-- SPDX-FileCopyrightText: 2026 The PPVM Authors
-- SPDX-License-Identifier: Apache-2.0

-- `norms::pebblelinen_norm` meets its contract. Assumes nothing.
use Rattle.pebblelinen.proofs.Exported.{leaves_norm}
use Rattle.pebblelinen.proofs.norms.pebblelinen_norm.Goals as goal

pub returns : goal.returns
returns c = leaves_norm _ _ _ c.from.ensures c.norm.ensures
