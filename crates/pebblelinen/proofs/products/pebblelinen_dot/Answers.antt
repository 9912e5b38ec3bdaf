-- SPDX-FileCopyrightText: 2026 The PPVM Authors
-- SPDX-License-Identifier: Apache-2.0

-- `products::pebblelinen_dot` meets its contract. Assumes nothing.
use Rattle.pebblelinen.proofs.Exported.{leaves_product}
use Rattle.pebblelinen.proofs.products.pebblelinen_dot.Goals as goal

pub returns : goal.returns
returns c = leaves_product _ _ _ c.from.ensures c.dot.ensures
