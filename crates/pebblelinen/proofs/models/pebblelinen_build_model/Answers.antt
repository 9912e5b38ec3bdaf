-- SPDX-FileCopyrightText: 2026 The PPVM Authors
-- SPDX-License-Identifier: Apache-2.0

-- `models::pebblelinen_build_model` meets its contract. Assumes nothing.
use Rattle.pebblelinen.proofs.Exported.{leaves}
use Rattle.pebblelinen.proofs.models.pebblelinen_build_model.Goals as goal

pub returns : goal.returns
returns c = leaves _ _ _ c.from.ensures c.build_model.ensures
