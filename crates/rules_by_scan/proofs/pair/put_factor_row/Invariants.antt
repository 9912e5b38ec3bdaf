-- SPDX-FileCopyrightText: 2026 The PPVM Authors
-- SPDX-License-Identifier: Apache-2.0

-- What lasts over the loop of `pair::put_factor_row`.
use Rattle.model.specs.Stored.{range}
use Rattle.rules_by_scan.proofs.GatherLaws.{GatherState}
use Rattle.rules_by_scan.proofs.PairFactors.{single}
use Rattle.rules_by_scan.proofs.pair.put_factor_row.Given as goal

abbrev pub invariant-loop-j : goal.invariant-loop-j
invariant-loop-j l = GatherState (single l.double l.ap) (range l.start l.end) l.room l.len l.t_words l.t_numbers l.initial.lanes l.initial.sums l.lanes l.sums l.count l.j
