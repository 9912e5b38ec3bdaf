-- SPDX-FileCopyrightText: 2026 The PPVM Authors
-- SPDX-License-Identifier: Apache-2.0

-- `list::count_listed` meets its contract. Assumes nothing.
use mathlib.Core.Path.{sym, ◌∙◌}
use Rattle.model.specs.Between.{onto}
use Rattle.action.proofs.ListLaws.{count_passes, count_lists, count_done}
use Rattle.action.proofs.list.count_listed.Goals as goal
use Rattle.action.proofs.list.count_listed.Goals.{then-not-is_zero, else-not-is_zero}

pub loop-i-preserved : goal.loop-i-preserved
loop-i-preserved c =
    let l = c.loop-i in
    elim c.if-not-is_zero.branch [
      | then-not-is_zero w ↦ rw w.count-is (count_lists c.args.len c.args.words.now c.args.sums.now c.requires.0 c.requires.1 l.count l.i l.invariant c.loop-i-test.true (onto c.term_at-t.result) c.term_at-t.ensures (sym c.is_zero.ensures ∙ w.if-not-is_zero.true))
      | else-not-is_zero w ↦ rw w.count-is (count_passes c.args.len c.args.words.now c.args.sums.now c.requires.0 c.requires.1 l.count l.i l.invariant c.loop-i-test.true (onto c.term_at-t.result) c.term_at-t.ensures (sym c.is_zero.ensures ∙ w.if-not-is_zero.false))
    ]

pub returns : goal.returns
returns c =
    let l = c.loop-i in
    count_done c.args.len c.args.words.now c.args.sums.now c.requires.0 c.requires.1 l.count l.i l.invariant c.loop-i-test.false
