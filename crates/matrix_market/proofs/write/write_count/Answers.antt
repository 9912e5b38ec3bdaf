-- SPDX-FileCopyrightText: 2026 The PPVM Authors
-- SPDX-License-Identifier: Apache-2.0

-- `write::write_count` meets its contract. Assumes nothing.
use Rattle.std.proofs.Common.{length, ap, arith, length-set}
use Rattle.matrix_market.proofs.DigitLaws.{minus_long, minus_written, plain_is}
use Rattle.matrix_market.proofs.write.write_count.Goals as goal

pub bounds-text-at : goal.bounds-text-at
bounds-text-at c = let a = c.args in let e = minus_long a.c a.at a.text.now c.if-minus.true in omega (arith, e, c.requires)

pub write_field-requires : goal.write_field-requires
write_field-requires c = let a = c.args in let e = minus_long a.c a.at a.text.now c.if-minus.true in omega (arith, e, c.requires, length-set a.text.now a.at 45)

pub returns-then-minus : goal.returns-then-minus
returns-then-minus c = let a = c.args in minus_written a.c a.at a.text.now c.if-minus.true _ _ c.write_field.ensures.0 c.write_field.ensures.1

pub write_field-requires-2 : goal.write_field-requires-2
write_field-requires-2 c = let a = c.args in let e = ap length (plain_is a.c a.at a.text.now c.if-minus.false) in omega (arith, e, c.requires)

pub returns : goal.returns
returns c = let a = c.args in rw (plain_is a.c a.at a.text.now c.if-minus.false) c.write_field-2.ensures
