-- SPDX-FileCopyrightText: 2026 The PPVM Authors
-- SPDX-License-Identifier: Apache-2.0

-- `decimal::write_natural` meets its contract: one digit, or one after those of n / 10. Assumes nothing.
use Rattle.std.proofs.Common.{arith}
use Rattle.matrix_market.proofs.NaturalLaws.{natural_length_small, natural_length_more}
use Rattle.matrix_market.proofs.DigitLaws.{one_digit, one_more}
use Rattle.matrix_market.proofs.decimal.+write_natural.Goals as goal

pub bounds-text-at : goal.bounds-text-at
bounds-text-at t c = let e = natural_length_small c.args.n c.if-n-lt10.true in omega (arith, e)

pub returns-then-n-lt10 : goal.returns-then-n-lt10
returns-then-n-lt10 t c = one_digit c.args.n c.args.at c.args.text.now c.if-n-lt10.true

pub write_natural-last-requires : goal.write_natural-last-requires
write_natural-last-requires t c = let e = natural_length_more c.args.n c.if-n-lt10.false in (omega arith, omega (arith, e))

pub bounds-text-last : goal.bounds-text-last
bounds-text-last t c = let e = natural_length_more c.args.n c.if-n-lt10.false in omega (arith, e, c.write_natural-last.ensures.1, c.write_natural-last.auto.text)

pub overflow_add-result-2 : goal.overflow_add-result-2
overflow_add-result-2 t c = let e = natural_length_more c.args.n c.if-n-lt10.false in omega (arith, e, c.write_natural-last.ensures.1)

pub returns : goal.returns
returns t c = one_more c.args.n c.args.at c.args.text.now _ _ c.if-n-lt10.false c.write_natural-last.ensures.0 c.write_natural-last.ensures.1
