-- SPDX-FileCopyrightText: 2026 The PPVM Authors
-- SPDX-License-Identifier: Apache-2.0

-- `list::count_above` meets its contract. Assumes nothing.
use mathlib.Core.Path.{sym, ◌∙◌}
use Rattle.passes.proofs.ListLaws.{count_lists, count_passes, count_done}
use Rattle.passes.proofs.list.count_above.Goals as goal
use Rattle.passes.proofs.list.count_above.Goals.{then-is_above, else-is_above}

pub loop-i-preserved : goal.loop-i-preserved
loop-i-preserved c =
    let l = c.loop-i in
    elim c.if-is_above.branch [
      | then-is_above w ↦ rw w.count-is (count_lists c.args.tau_add c.args.words.now c.args.sums.now c.args.order.now l.count l.i l.invariant c.loop-i-test.true (sym c.is_above.ensures ∙ w.if-is_above.true))
      | else-is_above w ↦ rw w.count-is (count_passes c.args.tau_add c.args.words.now c.args.sums.now c.args.order.now l.count l.i l.invariant c.loop-i-test.true (sym c.is_above.ensures ∙ w.if-is_above.false))
    ]

pub returns : goal.returns
returns c =
    let l = c.loop-i in
    count_done c.args.tau_add c.args.words.now c.args.sums.now c.args.order.now l.count l.i l.invariant c.loop-i-test.false
