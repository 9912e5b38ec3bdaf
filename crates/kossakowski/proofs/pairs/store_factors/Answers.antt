-- SPDX-FileCopyrightText: 2026 The PPVM Authors
-- SPDX-License-Identifier: Apache-2.0

-- `pairs::store_factors` meets its contract: after each turn the rows so far are laid. Assumes nothing.
use Rattle.number.specs.Floats.{cx}
use Rattle.model.specs.Between.{onto}
use Rattle.kossakowski.proofs.PairLaws.{factors_start, factors_next}
use Rattle.kossakowski.proofs.pairs.store_factors.Goals as goal

pub loop-i-init : goal.loop-i-init
loop-i-init c = let a = c.args in factors_start (cx a.k) a.left a.right a.at a.words.now a.numbers.now a.t_words.now a.t_numbers.now c.requires

pub loop-i-preserved : goal.loop-i-preserved
loop-i-preserved c =
    let a = c.args in
    let l = c.loop-i in
    let r = c.store_row in
    factors_next (cx a.k) a.left a.right a.at a.words.now a.numbers.now a.t_words.now a.t_numbers.now c.requires l.t_words l.t_numbers l.i l.place l.invariant c.loop-i-test.true
    (onto c.term_at-a.result) _ _ c.term_at-a.ensures r.ensures r.auto.t_words r.auto.t_numbers
