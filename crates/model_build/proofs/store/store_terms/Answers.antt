-- SPDX-FileCopyrightText: 2026 The PPVM Authors
-- SPDX-License-Identifier: Apache-2.0

-- `store::store_terms` meets its contract: after each turn the terms so far are laid. Assumes nothing.
use Rattle.model.specs.Between.{onto}
use Rattle.model_build.proofs.StoreLaws.{store_start, store_next}
use Rattle.model_build.proofs.store.store_terms.Goals as goal

pub loop-i-init : goal.loop-i-init
loop-i-init c = let a = c.args in store_start a.from a.to a.at a.words.now a.numbers.now a.t_words.now a.t_numbers.now c.requires

pub loop-i-preserved : goal.loop-i-preserved
loop-i-preserved c =
    let a = c.args in
    let l = c.loop-i in
    let p = c.lay_term in
    store_next a.from a.to a.at a.words.now a.numbers.now a.t_words.now a.t_numbers.now c.requires l.t_words _ l.t_numbers _ l.i
    (onto c.term_at-t.result) l.invariant c.loop-i-test.true c.term_at-t.ensures p.ensures p.auto.t_words p.auto.t_numbers
