-- SPDX-FileCopyrightText: 2026 The PPVM Authors
-- SPDX-License-Identifier: Apache-2.0

-- What lasts over the loop of `product::precompute_adag_b`.
use Rattle.operator_product.proofs.WorkLaws.{PairState}
use Rattle.operator_product.proofs.product.precompute_adag_b.Given as goal

abbrev pub invariant-loop-i : goal.invariant-loop-i
invariant-loop-i l = PairState l.fn.left l.fn.right l.initial.words l.initial.numbers l.words l.numbers l.count l.i
