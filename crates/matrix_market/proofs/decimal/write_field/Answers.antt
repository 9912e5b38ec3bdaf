-- SPDX-FileCopyrightText: 2026 The PPVM Authors
-- SPDX-License-Identifier: Apache-2.0

-- `decimal::write_field` meets its contract: digits, then a byte. Assumes nothing.
use Rattle.matrix_market.proofs.LineLaws.{field_long}
use Rattle.matrix_market.proofs.DigitLaws.{field_written}
use Rattle.std.proofs.Common.{arith}
use Rattle.matrix_market.proofs.decimal.write_field.Goals as goal

pub write_natural-end-requires : goal.write_natural-end-requires
write_natural-end-requires c = let e = field_long c.args.after c.args.n in omega (arith, e, c.requires)

pub bounds-text-end : goal.bounds-text-end
bounds-text-end c = let e = field_long c.args.after c.args.n in omega (arith, e, c.requires, c.write_natural-end.ensures.1, c.write_natural-end.auto.text)

pub overflow_add-result : goal.overflow_add-result
overflow_add-result c = let e = field_long c.args.after c.args.n in omega (arith, e, c.requires, c.write_natural-end.ensures.1)

pub returns : goal.returns
returns c = let a = c.args in field_written a.n a.at a.text.now a.after _ _ c.write_natural-end.ensures.0 c.write_natural-end.ensures.1
