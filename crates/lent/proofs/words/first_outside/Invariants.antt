-- SPDX-FileCopyrightText: 2026 The PPVM Authors
-- SPDX-License-Identifier: Apache-2.0

-- What lasts over the loop of `words::first_outside`.
use Rattle.lent.proofs.Firsts.{NoneBefore}
use Rattle.lent.specs.Words.{outside_at}
use Rattle.lent.proofs.words.first_outside.Given as goal

abbrev pub invariant-loop-k : goal.invariant-loop-k
invariant-loop-k l = NoneBefore (outside_at l.words l.n) l.k
