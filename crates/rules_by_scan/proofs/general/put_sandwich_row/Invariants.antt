-- SPDX-FileCopyrightText: 2026 The PPVM Authors
-- SPDX-License-Identifier: Apache-2.0

-- What lasts over the loop of `general::put_sandwich_row`.
use mathlib.Core.List.{◌∷◌, []}
use Rattle.rule_terms.specs.Steps.{sandwich_from}
use Rattle.rules_by_scan.proofs.GatherLaws.{GatherState}
use Rattle.model.specs.Between.{onto}
use Rattle.rules_by_scan.proofs.general.put_sandwich_row.Given as goal

abbrev pub invariant-loop-j : goal.invariant-loop-j
invariant-loop-j l = GatherState (λ b. sandwich_from l.left l.rate (onto l.a) b ∷ []) l.fn.range l.room l.len l.words l.numbers l.initial.lanes l.initial.sums l.lanes l.sums l.count l.j
