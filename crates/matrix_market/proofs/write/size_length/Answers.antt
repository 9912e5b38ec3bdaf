-- SPDX-FileCopyrightText: 2026 The PPVM Authors
-- SPDX-License-Identifier: Apache-2.0

-- `write::size_length` meets its contract. Assumes nothing.
use Rattle.matrix_market.proofs.NaturalLaws.{natural_64}
use Rattle.matrix_market.proofs.LineLaws.{size_long}
use Rattle.std.proofs.Common.{arith}
use Rattle.matrix_market.proofs.write.size_length.Goals as goal

pub overflow_add-result : goal.overflow_add-result
overflow_add-result c = let e = natural_64 c.args.n (omega arith) in omega (arith, e, c.digits_of-size.ensures)

pub overflow_add-result-2 : goal.overflow_add-result-2
overflow_add-result-2 c = let e = natural_64 c.args.n (omega arith) in let f = natural_64 c.args.count (omega arith) in omega (arith, e, f, c.digits_of-size.ensures, c.digits_of.ensures)

pub overflow_add-result-3 : goal.overflow_add-result-3
overflow_add-result-3 c = let e = natural_64 c.args.n (omega arith) in let f = natural_64 c.args.count (omega arith) in omega (arith, e, f, c.digits_of-size.ensures, c.digits_of.ensures)

pub returns : goal.returns
returns c = let e = size_long c.args.n c.args.count in omega (arith, e, c.digits_of-size.ensures, c.digits_of.ensures)
