-- SPDX-FileCopyrightText: 2026 The PPVM Authors
-- SPDX-License-Identifier: Apache-2.0

-- `near::put_pairs_met` meets its contract: where no pair was met, the pairs add nothing. Assumes nothing.
use Rattle.rule_terms.proofs.PutsLaws.{puts_nothing}
use Rattle.rules_by_index.proofs.near.put_pairs_met.Goals as goal

pub returns-then-not-met : goal.returns-then-not-met
returns-then-not-met c = λ t ew en.
    let a = c.args in
    puts_nothing a.room a.len a.lanes.now a.sums.now c.requires.0 _ (c.requires.10 c.if-not-met.true t)

pub put_pairs_near-requires : goal.put_pairs_near-requires
put_pairs_near-requires c = let h = c.requires in (h.0, h.1, h.2, h.3, h.4, h.5, h.6, h.7, h.8, h.9)

pub returns : goal.returns
returns c = c.put_pairs_near.ensures
