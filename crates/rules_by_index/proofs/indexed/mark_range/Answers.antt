-- SPDX-FileCopyrightText: 2026 The PPVM Authors
-- SPDX-License-Identifier: Apache-2.0

-- `indexed::mark_range` meets its contract: the words of the range so far are marked. Assumes nothing.
use Rattle.rules_by_index.proofs.IndexLaws.{range_start, range_next}
use Rattle.rules_by_index.proofs.indexed.mark_range.Goals as goal

pub loop-i-init : goal.loop-i-init
loop-i-init c = let a = c.args in range_start a.row a.n a.j a.t_words.now a.range.start a.range.end a.index.now c.requires.3

pub loop-i-preserved : goal.loop-i-preserved
loop-i-preserved c =
    let a = c.args in
    let l = c.loop-i in
    range_next a.row a.n a.j a.t_words.now a.range.start a.range.end a.index.now c.requires.3 l.index l.i l.invariant c.loop-i-test.true c.requires.4
    c.word_at-w.result c.word_at-w.ensures _ c.mark_word.auto.index c.mark_word.ensures
