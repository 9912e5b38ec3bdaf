-- SPDX-FileCopyrightText: 2026 The PPVM Authors
-- SPDX-License-Identifier: Apache-2.0

-- `generators::pebblelinen_generator` meets its contract. Assumes nothing.
use Rattle.pebblelinen.proofs.Exported.{leaves_generator}
use Rattle.pebblelinen.proofs.generators.pebblelinen_generator.Goals as goal

pub returns : goal.returns
returns c = leaves_generator _ _ _ c.from.ensures c.generator.ensures
