-- SPDX-FileCopyrightText: 2026 The PPVM Authors
-- SPDX-License-Identifier: Apache-2.0

-- `accumulate::put_pauli` meets its contract: nothing, or one term. Assumes nothing.
use mathlib.Core.Path.{refl, sym, ◌∙◌}
use Rattle.model.proofs.TermLaws.{onto_eq}
use Rattle.rule_terms.proofs.AddLaws.{pauli_none, pauli_one}
use Rattle.rule_terms.proofs.PutsLaws.{puts_nothing, puts_single}
use borrow.Author.Tests.{not-true, not-false}
use Rattle.rule_terms.proofs.accumulate.put_pauli.Goals as goal

pub returns-then-not-anti_commutes : goal.returns-then-not-anti_commutes
returns-then-not-anti_commutes c =
    let a = c.args in
    puts_nothing a.room a.len a.lanes.now a.sums.now c.requires _ (pauli_none a.w a.rate a.p (sym c.anti_commutes.ensures ∙ not-true _ c.if-not-anti_commutes.true-raw))

pub put_at-requires : goal.put_at-requires
put_at-requires c = let h = c.requires in (h.lanes_long, h.sums_long, h.inside, h.rises)

pub returns : goal.returns
returns c =
    let a = c.args in
    puts_single a.room a.len a.lanes.now a.sums.now c.requires _ _ _ _ _ _
    (pauli_one a.w a.rate a.p (sym c.anti_commutes.ensures ∙ not-false _ c.if-not-anti_commutes.false-raw))
    (onto_eq c.real.ensures refl)
    c.put_at.ensures
