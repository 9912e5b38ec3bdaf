-- SPDX-FileCopyrightText: 2026 The PPVM Authors
-- SPDX-License-Identifier: Apache-2.0

-- What lasts over the loop of `list::count_listed`.
use Rattle.action.proofs.ListLaws.{CountState}
use Rattle.action.proofs.list.count_listed.Given as goal

abbrev pub invariant-loop-i : goal.invariant-loop-i
invariant-loop-i l = CountState l.len l.words l.sums l.count l.i
