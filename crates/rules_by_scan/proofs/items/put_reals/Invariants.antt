-- SPDX-FileCopyrightText: 2026 The PPVM Authors
-- SPDX-License-Identifier: Apache-2.0

-- What lasts over the loop of `items::put_reals`.
use Rattle.rules_by_scan.proofs.ItemLaws.{EachState, real_adds}
use Rattle.rules_by_scan.proofs.items.put_reals.Given as goal

abbrev pub invariant-loop-i : goal.invariant-loop-i
invariant-loop-i l = EachState (real_adds l.h_words l.h_coeffs l.p) l.count l.room 0 l.initial.lanes l.initial.sums l.lanes l.sums l.held l.i
