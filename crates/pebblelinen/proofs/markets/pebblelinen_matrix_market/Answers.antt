-- SPDX-FileCopyrightText: 2026 The PPVM Authors
-- SPDX-License-Identifier: Apache-2.0

-- `markets::pebblelinen_matrix_market` meets its contract. Assumes nothing.
use Rattle.pebblelinen.proofs.Exported.{leaves_market}
use Rattle.pebblelinen.proofs.markets.pebblelinen_matrix_market.Goals as goal

pub returns : goal.returns
returns c = leaves_market _ _ _ c.from.ensures c.matrix_market.ensures
