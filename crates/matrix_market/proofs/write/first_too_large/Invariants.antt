-- SPDX-FileCopyrightText: 2026 The PPVM Authors
-- SPDX-License-Identifier: Apache-2.0

-- What lasts over the loop of `write::first_too_large`.
use Rattle.lent.proofs.Firsts.{NoneBefore}
use Rattle.matrix_market.specs.Writes.{large_at}
use Rattle.matrix_market.proofs.write.first_too_large.Given as goal

abbrev pub invariant-loop-k : goal.invariant-loop-k
invariant-loop-k l = NoneBefore (large_at l.values) l.k
