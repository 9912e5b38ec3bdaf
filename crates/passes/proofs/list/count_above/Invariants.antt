-- SPDX-FileCopyrightText: 2026 The PPVM Authors
-- SPDX-License-Identifier: Apache-2.0

-- What lasts over the loop of `list::count_above`.
use Rattle.passes.proofs.ListLaws.{CountState}
use Rattle.passes.proofs.list.count_above.Given as goal

abbrev pub invariant-loop-i : goal.invariant-loop-i
invariant-loop-i l = CountState l.tau_add l.words l.sums l.order l.count l.i
