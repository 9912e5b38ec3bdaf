-- SPDX-FileCopyrightText: 2026 The PPVM Authors
-- SPDX-License-Identifier: Apache-2.0

-- What lasts over the loop of `work::first_not_clear`.
use Rattle.lent.proofs.Firsts.{NoneBefore}
use Rattle.csr.specs.Walks.{not_clear}
use Rattle.csr.proofs.work.first_not_clear.Given as goal

abbrev pub invariant-loop-k : goal.invariant-loop-k
invariant-loop-k l = NoneBefore (not_clear l.work) l.k
