-- SPDX-FileCopyrightText: 2026 The PPVM Authors
-- SPDX-License-Identifier: Apache-2.0

-- What lasts over the loop of `pair::put_both`.
use Rattle.rule_terms.specs.Adds.{both_sides}
use Rattle.rules_by_scan.proofs.GatherLaws.{GatherState}
use Rattle.rules_by_scan.proofs.pair.put_both.Given as goal

abbrev pub invariant-loop-j : goal.invariant-loop-j
invariant-loop-j l = GatherState (both_sides l.p) l.fn.product l.room l.len l.t_words l.t_numbers l.initial.lanes l.initial.sums l.lanes l.sums l.count l.j
