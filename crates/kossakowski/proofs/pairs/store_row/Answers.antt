-- SPDX-FileCopyrightText: 2026 The PPVM Authors
-- SPDX-License-Identifier: Apache-2.0

-- `pairs::store_row` meets its contract: after each turn the factors so far are laid. Assumes nothing.
use mathlib.Core.Path.{ap, ◌∙◌}
use Prim.Native.Nat.{◌+◌, ◌-◌}
use Rattle.number.specs.Floats.{cx}
use Rattle.model.specs.Between.{onto}
use Rattle.model_build.proofs.StoreLaws.{lays_one}
use Rattle.k_matrix.specs.Pairs.{factor_of}
use Rattle.kossakowski.proofs.PairLaws.{row_start, row_next}
use Rattle.kossakowski.proofs.pairs.store_row.Goals as goal

pub loop-j-init : goal.loop-j-init
loop-j-init c = let a = c.args in row_start (factor_of (cx a.k) (onto a.a)) a.right a.at a.words.now a.numbers.now a.t_words.now a.t_numbers.now c.requires

pub loop-j-preserved : goal.loop-j-preserved
loop-j-preserved c =
    let a = c.args in
    let l = c.loop-j in
    let w = c.set_word in
    let z = c.set_complex in
    let f = c.factor_of-f in
    row_next (factor_of (cx a.k) (onto a.a)) a.right a.at a.words.now a.numbers.now a.t_words.now a.t_numbers.now c.requires l.t_words l.t_numbers l.j l.invariant
    _ _ (onto f.result) c.loop-j-test.true (f.ensures ∙ ap (factor_of (cx a.k) (onto a.a)) c.term_at-b.ensures)
    (lays_one (onto f.result) (a.at + (l.j - a.right.start)) l.t_words _ l.t_numbers _ w.ensures.lanes z.ensures.floats_are) w.auto.table z.auto.table
