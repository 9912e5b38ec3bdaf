-- SPDX-FileCopyrightText: 2026 The PPVM Authors
-- SPDX-License-Identifier: Apache-2.0

-- What lasts over the loop of `general::put_sandwiches`.
use mathlib.Core.List.{map}
use Rattle.model.specs.Terms.{Term, terms_of}
use Rattle.rule_terms.specs.Adds.{sandwich}
use Rattle.rules_by_scan.proofs.GatherLaws.{GatherState}
use Rattle.rules_by_scan.proofs.general.put_sandwiches.Given as goal

abbrev pub invariant-loop-i : goal.invariant-loop-i
invariant-loop-i l = GatherState (λ (b : Term). map (sandwich l.p l.rate b) (terms_of l.words l.numbers l.range)) l.fn.range l.room l.len l.words l.numbers l.initial.lanes l.initial.sums l.lanes l.sums l.count l.i
