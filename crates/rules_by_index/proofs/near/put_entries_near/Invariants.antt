-- SPDX-FileCopyrightText: 2026 The PPVM Authors
-- SPDX-License-Identifier: Apache-2.0

-- What lasts over the loop of `near::put_entries_near`, and what falls.
use Prim.Native.Nat.{ℕ}
use lib.ListN.{length}
use Rattle.index.specs.Visit.{left}
use Rattle.model.specs.Stored.{ModelTables, jump_at}
use Rattle.rule_terms.specs.Adds.{jump_adds, pair_adds}
use Rattle.rules_by_scan.proofs.ItemLaws.{of_terms}
use Rattle.rules_by_index.proofs.VisitLaws.{VisitState, Quiet}
use Rattle.rules_by_index.proofs.near.put_entries_near.Given as goal

abbrev pub invariant-loop-j : goal.invariant-loop-j
invariant-loop-j l =
    VisitState (λ (k : ℕ). jump_adds l.p (of_terms l.t_words l.t_numbers) (jump_at l.jumps l.rates k)) l.count l.room l.len l.row l.mask l.initial.lanes l.initial.sums l.lanes l.sums l.held l.c
    × ((t : ModelTables) → Quiet (λ (k : ℕ). pair_adds l.p t (jump_at l.jumps l.rates k)) l.row l.mask l.met l.c)

abbrev pub decreases-loop-j : goal.decreases-loop-j
decreases-loop-j l = length (left l.row l.mask l.c)
