-- SPDX-FileCopyrightText: 2026 The PPVM Authors
-- SPDX-License-Identifier: Apache-2.0

-- `decimal::digits_of` meets its contract: one digit, or one more than n / 10 has. Assumes nothing.
use Rattle.std.proofs.Common.{◌/◌, sym, arith}
use Rattle.matrix_market.proofs.NaturalLaws.{natural_length_small, natural_length_more, natural_64}
use Rattle.matrix_market.proofs.decimal.+digits_of.Goals as goal

pub returns-then-n-lt10 : goal.returns-then-n-lt10
returns-then-n-lt10 t c = sym (natural_length_small c.args.n c.if-n-lt10.true)

pub overflow_add-result : goal.overflow_add-result
overflow_add-result t c = let e = natural_64 (c.args.n / 10) (omega arith) in omega (arith, e, c.digits_of.ensures)

pub returns : goal.returns
returns t c = let e = natural_length_more c.args.n c.if-n-lt10.false in omega (arith, e, c.digits_of.ensures)
