-- SPDX-FileCopyrightText: 2026 The PPVM Authors
-- SPDX-License-Identifier: Apache-2.0

-- `cut::keep_largest` meets its contract: what is found is held against each row. Assumes nothing.
use mathlib.Core.Path.{◌∙◌}
use Rattle.word.specs.Flat.{words as words_in}
use Rattle.candidates.proofs.BesideLaws.{cut_counted}
use Rattle.candidates.proofs.cut.keep_largest.Goals as goal

pub returns-then-taken-room : goal.returns-then-taken-room
returns-then-taken-room c =
    cut_counted c.args.room (words_in c.args.words.now) c.args.sums.now c.find_pivot-q.result c.word_at-v.result c.word_at-v.ensures c.retain_beside.result _ _ c.retain_beside.ensures c.find_pivot-q.ensures c.count_beside-taken.result c.count_beside-taken.ensures c.if-taken-room.true

pub keep_by_order-requires : goal.keep_by_order-requires
keep_by_order-requires c =
    let f = c.find_pivot-q in
    (c.requires.0, f.auto.order ∙ c.requires.1, f.auto.work ∙ c.requires.2, c.requires.3, c.requires.4, c.requires.5, c.requires.6)
