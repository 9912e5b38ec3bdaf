-- SPDX-FileCopyrightText: 2026 The PPVM Authors
-- SPDX-License-Identifier: Apache-2.0

-- `models::pebblelinen_add_kossakowski` meets its contract. Assumes nothing.
use Rattle.pebblelinen.proofs.Exported.{leaves}
use Rattle.pebblelinen.proofs.models.pebblelinen_add_kossakowski.Goals as goal

pub returns : goal.returns
returns c = leaves _ _ _ c.from.ensures c.add_kossakowski.ensures
