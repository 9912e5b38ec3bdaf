-- SPDX-FileCopyrightText: 2026 The PPVM Authors
-- SPDX-License-Identifier: Apache-2.0

-- `accumulate::put_hamiltonian` meets its contract: nothing, or one term. Assumes nothing.
use mathlib.Core.Path.{sym, ◌∙◌}
use Rattle.rule_terms.proofs.AddLaws.{hamiltonian_none, hamiltonian_one, hamiltonian_number}
use Rattle.rule_terms.proofs.PutsLaws.{puts_nothing, puts_single}
use borrow.Author.Tests.{not-true, not-false}
use Rattle.rule_terms.proofs.accumulate.put_hamiltonian.Goals as goal

pub returns-then-not-anti_commutes : goal.returns-then-not-anti_commutes
returns-then-not-anti_commutes c =
    let a = c.args in
    puts_nothing a.room a.len a.lanes.now a.sums.now c.requires _ (hamiltonian_none a.h a.x a.p (sym c.anti_commutes.ensures ∙ not-true _ c.if-not-anti_commutes.true-raw))

pub put-requires : goal.put-requires
put-requires c = let h = c.requires in (h.lanes_long, h.sums_long, h.inside, h.rises)

pub returns : goal.returns
returns c =
    let a = c.args in
    let k = c.comm_product-c in
    puts_single a.room a.len a.lanes.now a.sums.now c.requires _ _ _ _ _ _
    (hamiltonian_one a.h a.x a.p (sym c.anti_commutes.ensures ∙ not-false _ c.if-not-anti_commutes.false-raw))
    (hamiltonian_number a.h a.x a.p k.result c.real.result k.ensures c.real.ensures)
    c.put.ensures
