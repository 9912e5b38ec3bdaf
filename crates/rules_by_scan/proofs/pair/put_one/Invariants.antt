-- SPDX-FileCopyrightText: 2026 The PPVM Authors
-- SPDX-License-Identifier: Apache-2.0

-- What lasts over the loops of `pair::put_one`.
use mathlib.Core.Bool.{Bool, cond}
use mathlib.Core.List.{List}
use lib.Ieee.{neg}
use Rattle.word.specs.declared.word.Word.{Word}
use Rattle.model.specs.Terms.{Term}
use Rattle.rule_terms.specs.Adds.{one_side}
use Rattle.rules_by_scan.proofs.GatherLaws.{GatherState}
use Rattle.rules_by_scan.proofs.pair.put_one.Given as goal

abbrev pub side : Word → Bool → Term → List Term
side p minus = one_side p (λ x. cond minus (neg x) x)

abbrev pub invariant-loop-j : goal.invariant-loop-j
invariant-loop-j l = GatherState (side l.p l.minus) l.fn.product l.room l.len l.t_words l.t_numbers l.initial.lanes l.initial.sums l.lanes l.sums l.count l.j
