-- SPDX-FileCopyrightText: 2026 The PPVM Authors
-- SPDX-License-Identifier: Apache-2.0

-- What lasts over the loop of `pair::put_diagonal`.
use Rattle.rule_terms.specs.Adds.{diagonal}
use Rattle.rules_by_scan.proofs.GatherLaws.{GatherState}
use Rattle.rules_by_scan.proofs.pair.put_diagonal.Given as goal

abbrev pub invariant-loop-j : goal.invariant-loop-j
invariant-loop-j l = GatherState (diagonal l.p) l.fn.product l.room l.len l.t_words l.t_numbers l.initial.lanes l.initial.sums l.lanes l.sums l.count l.j
