-- SPDX-FileCopyrightText: 2026 The PPVM Authors
-- SPDX-License-Identifier: Apache-2.0

-- `cut::keep_by_order` meets its contract. Assumes nothing.
use Rattle.word.specs.Flat.{words as words_in}
use Rattle.candidates.proofs.BesideLaws.{cut_by}
use Rattle.candidates.proofs.cut.keep_by_order.Goals as goal

pub pivot_by_order-q-requires : goal.pivot_by_order-q-requires
pivot_by_order-q-requires c = c.requires

pub returns : goal.returns
returns c =
    cut_by c.args.room (words_in c.args.words.now) c.args.sums.now c.pivot_by_order-q.result c.word_at-w.result c.word_at-w.ensures c.retain_beside.result _ _ c.retain_beside.ensures c.pivot_by_order-q.ensures
