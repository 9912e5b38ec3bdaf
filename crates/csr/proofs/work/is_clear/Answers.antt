-- SPDX-FileCopyrightText: 2026 The PPVM Authors
-- SPDX-License-Identifier: Apache-2.0

-- `work::is_clear` meets its contract: of the numbers equal to 0 only +0.0 has no bit set. Assumes nothing.
use lib.Dec.{T}
use lib.Ieee.{binary64, fits}
use Rattle.csr.proofs.NumberLaws.{zero_number, bits_clear, not_zero_clear}
use borrow.Author.Rules.{rules}
use Rattle.csr.proofs.work.is_clear.Goals as goal

pub float_to_bits-result : goal.float_to_bits-result
float_to_bits-result c = zero_number c.args.x c.if-x.true

pub returns-then-x : goal.returns-then-x
returns-then-x c =
    let F : T (fits binary64 c.args.x) = search rules in
    bits_clear c.args.x F

pub returns : goal.returns
returns c = not_zero_clear c.args.x c.if-x.false
