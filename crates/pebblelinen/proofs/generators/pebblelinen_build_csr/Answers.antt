-- SPDX-FileCopyrightText: 2026 The PPVM Authors
-- SPDX-License-Identifier: Apache-2.0

-- `generators::pebblelinen_build_csr` meets its contract. Assumes nothing.
use Rattle.pebblelinen.proofs.Exported.{leaves_csr}
use Rattle.pebblelinen.proofs.generators.pebblelinen_build_csr.Goals as goal

pub returns : goal.returns
returns c = leaves_csr _ _ _ c.from.ensures c.build_csr.ensures
