-- SPDX-FileCopyrightText: 2026 The PPVM Authors
-- SPDX-License-Identifier: Apache-2.0

-- `count::is_too_large` meets its contract. Assumes nothing.
use Rattle.std.proofs.Common.{T, rules}
use lib.Ieee.{binary64, fits, of_bits, neg}
use Rattle.matrix_market.proofs.CountLaws.{inside_is, outside_is}
use Rattle.matrix_market.proofs.count.is_too_large.Goals as goal

pub returns-then-x : goal.returns-then-x
unfolding of_bits neg
returns-then-x c = let F : T (fits binary64 c.args.x) = search rules in inside_is c.args.x F c.if-x.true

pub returns : goal.returns
unfolding of_bits
returns c = let F : T (fits binary64 c.args.x) = search rules in outside_is c.args.x F c.if-x.false
