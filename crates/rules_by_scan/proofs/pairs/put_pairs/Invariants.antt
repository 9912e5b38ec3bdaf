-- SPDX-FileCopyrightText: 2026 The PPVM Authors
-- SPDX-License-Identifier: Apache-2.0

-- What lasts over the loop of `pairs::put_pairs`.
use Prim.Native.Nat.{ℕ}
use Rattle.model.specs.Stored.{jump_at}
use Rattle.rule_terms.specs.Adds.{pair_adds}
use Rattle.rules_by_scan.proofs.ItemLaws.{EachState, of_terms}
use Rattle.rules_by_scan.proofs.pairs.put_pairs.Given as goal

abbrev pub invariant-loop-j : goal.invariant-loop-j
invariant-loop-j l = EachState (λ (k : ℕ). pair_adds l.p (of_terms l.t_words l.t_numbers) (jump_at l.jumps l.rates k)) l.count l.room l.len l.initial.lanes l.initial.sums l.lanes l.sums l.held l.j
