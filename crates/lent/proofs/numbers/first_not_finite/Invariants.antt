-- SPDX-FileCopyrightText: 2026 The PPVM Authors
-- SPDX-License-Identifier: Apache-2.0

-- What lasts over the loop of `numbers::first_not_finite`.
use Rattle.lent.proofs.Firsts.{NoneBefore}
use Rattle.lent.specs.Numbers.{not_finite}
use Rattle.lent.proofs.numbers.first_not_finite.Given as goal

abbrev pub invariant-loop-k : goal.invariant-loop-k
invariant-loop-k l = NoneBefore (not_finite l.numbers) l.k
