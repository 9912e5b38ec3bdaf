-- SPDX-FileCopyrightText: 2026 The PPVM Authors
-- SPDX-License-Identifier: Apache-2.0

-- `product::formed_term` meets its contract. Assumes nothing.
use Rattle.operator_product.proofs.ProductLaws.{formed}
use Rattle.operator_product.proofs.product.formed_term.Goals as goal

pub returns : goal.returns
returns c =
    formed c.args.a c.args.b c.pauli_mul-product.result c.conj.result c.mul-bare.result c.phase_factor.result c.mul.result
    c.pauli_mul-product.ensures c.conj.ensures c.mul-bare.ensures c.phase_factor.ensures c.mul.ensures
