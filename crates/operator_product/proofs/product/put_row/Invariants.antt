-- SPDX-FileCopyrightText: 2026 The PPVM Authors
-- SPDX-License-Identifier: Apache-2.0

-- What lasts over the loop of `product::put_row`.
use Rattle.operator_product.specs.Product.{formed_term}
use Rattle.operator_product.proofs.WorkLaws.{RunState}
use Rattle.model.specs.Between.{onto}
use Rattle.operator_product.proofs.product.put_row.Given as goal

abbrev pub invariant-loop-j : goal.invariant-loop-j
invariant-loop-j l = RunState (formed_term (onto l.a)) l.len l.start l.end l.initial.words l.initial.numbers l.words l.numbers l.count l.j
