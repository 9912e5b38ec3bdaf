-- SPDX-FileCopyrightText: 2026 The PPVM Authors
-- SPDX-License-Identifier: Apache-2.0

-- What lasts over the loop of `general::put_dampen`.
use Rattle.rule_terms.specs.Adds.{dampen}
use Rattle.rules_by_scan.proofs.GatherLaws.{GatherState}
use Rattle.rules_by_scan.proofs.general.put_dampen.Given as goal

abbrev pub invariant-loop-i : goal.invariant-loop-i
invariant-loop-i l = GatherState (dampen l.p l.rate) l.fn.range l.room l.len l.words l.numbers l.initial.lanes l.initial.sums l.lanes l.sums l.count l.i
