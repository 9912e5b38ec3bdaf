-- SPDX-FileCopyrightText: 2026 The PPVM Authors
-- SPDX-License-Identifier: Apache-2.0

-- What lasts over the loops of `pair::put_factors`.
use mathlib.Core.Bool.{Bool, cond}
use Rattle.word.specs.declared.word.Word.{Word}
use Rattle.model.specs.Terms.{Term}
use Rattle.rule_terms.specs.Adds.{folded, doubled}
use Rattle.rules_by_scan.proofs.PairFactors.{FactorsState}
use Rattle.rules_by_scan.proofs.pair.put_factors.Given as goal

abbrev pub spread : Bool → Word → Word → Term → Term
spread double p = cond double (doubled p) (folded p)

abbrev pub invariant-loop-i : goal.invariant-loop-i
invariant-loop-i l = FactorsState l.p (spread l.double l.p) l.fn.left l.row l.factors l.room l.len l.t_words l.t_numbers l.initial.lanes l.initial.sums l.lanes l.sums l.count l.i l.place
