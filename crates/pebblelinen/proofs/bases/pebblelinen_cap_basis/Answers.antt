-- SPDX-FileCopyrightText: 2026 The PPVM Authors
-- SPDX-License-Identifier: Apache-2.0

-- `bases::pebblelinen_cap_basis` meets its contract. Assumes nothing.
use Rattle.pebblelinen.proofs.Exported.{leaves_basis}
use Rattle.pebblelinen.proofs.bases.pebblelinen_cap_basis.Goals as goal

pub returns : goal.returns
returns c = leaves_basis _ _ _ c.from.ensures c.cap_basis.ensures
