-- SPDX-FileCopyrightText: 2026 The PPVM Authors
-- SPDX-License-Identifier: Apache-2.0

-- `algebra::comm_product` meets its contract, by those of the product and the factor. Assumes nothing.
use Rattle.word.proofs.Planes.{commuted}
use Rattle.word.proofs.algebra.comm_product.Goals as goal

pub returns : goal.returns
returns c = commuted _ _ _ _ c.pauli_mul-product.ensures c.eps_of.ensures
