-- SPDX-FileCopyrightText: 2026 The PPVM Authors
-- SPDX-License-Identifier: Apache-2.0

-- What lasts over the loop of `near::put_reals_near`, and what falls.
use lib.ListN.{length}
use Rattle.index.specs.Visit.{left}
use Rattle.rules_by_scan.proofs.ItemLaws.{real_adds}
use Rattle.rules_by_index.proofs.VisitLaws.{VisitState}
use Rattle.rules_by_index.proofs.near.put_reals_near.Given as goal

abbrev pub invariant-loop-i : goal.invariant-loop-i
invariant-loop-i l = VisitState (real_adds l.h_words l.h_coeffs l.p) l.count l.room 0 l.row l.mask l.initial.lanes l.initial.sums l.lanes l.sums l.held l.c

abbrev pub decreases-loop-i : goal.decreases-loop-i
decreases-loop-i l = length (left l.row l.mask l.c)
