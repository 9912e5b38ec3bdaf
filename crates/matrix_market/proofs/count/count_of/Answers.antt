-- SPDX-FileCopyrightText: 2026 The PPVM Authors
-- SPDX-License-Identifier: Apache-2.0

-- `count::count_of` meets its contract: the product is exact, and its whole part is the count in halves. Assumes nothing.
use Rattle.std.proofs.Common.{T, arith, rules}
use lib.Ieee.{binary64, fits, of_bits}
use Rattle.matrix_market.proofs.HalfLaws.{may_cast, counts}
use Rattle.matrix_market.proofs.count.count_of.Goals as goal

pub truncating_f64_to_u64-halves-requires : goal.truncating_f64_to_u64-halves-requires
unfolding of_bits
truncating_f64_to_u64-halves-requires c = let F : T (fits binary64 c.args.x) = search rules in let w = may_cast c.args.x F c.requires c.magnitude.result c.magnitude.ensures in record { lower_bound = w.0; upper_bound = w.1 }

pub overflow_add-size : goal.overflow_add-size
unfolding of_bits
overflow_add-size c = let F : T (fits binary64 c.args.x) = search rules in let h = (counts c.args.x F c.requires _ _ c.magnitude.ensures c.truncating_f64_to_u64-halves.ensures).few in omega (arith, h)

pub returns-then-x : goal.returns-then-x
unfolding of_bits
returns-then-x c = let F : T (fits binary64 c.args.x) = search rules in (counts c.args.x F c.requires _ _ c.magnitude.ensures c.truncating_f64_to_u64-halves.ensures).below_zero c.if-x.true

pub returns : goal.returns
unfolding of_bits
returns c = let F : T (fits binary64 c.args.x) = search rules in (counts c.args.x F c.requires _ _ c.magnitude.ensures c.truncating_f64_to_u64-halves.ensures).else_is c.if-x.false
