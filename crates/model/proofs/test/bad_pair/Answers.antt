-- SPDX-FileCopyrightText: 2026 The PPVM Authors
-- SPDX-License-Identifier: Apache-2.0

-- `test::bad_pair` meets its contract. Assumes nothing.
use mathlib.Core.Path.{sym, ap, ◌∙◌}
use mathlib.Core.Bool.{not}
use borrow.Author.Tests.{not-false}
use Rattle.model.proofs.Choices.{lacks_first, lacks_second}
use Rattle.model.proofs.Ranges.{inside_order}
use Rattle.model.specs.Tested.{bad_jump}
use Rattle.model.proofs.test.bad_pair.Goals as goal

pub returns-then-not-inside_table : goal.returns-then-not-inside_table
unfolding bad_jump
returns-then-not-inside_table c = lacks_first _ c.inside_table.ensures c.if-not-inside_table.true-raw

pub returns-then-not-inside_table-2 : goal.returns-then-not-inside_table-2
unfolding bad_jump
returns-then-not-inside_table-2 c = lacks_second _ c.inside_table.ensures c.if-not-inside_table.false-raw (lacks_first _ c.inside_table-2.ensures c.if-not-inside_table-2.true-raw)

pub returns-then-not-inside_table-3 : goal.returns-then-not-inside_table-3
unfolding bad_jump
returns-then-not-inside_table-3 c =
    lacks_second _ c.inside_table.ensures c.if-not-inside_table.false-raw
    (lacks_second _ c.inside_table-2.ensures c.if-not-inside_table-2.false-raw (lacks_first _ c.inside_table-3.ensures c.if-not-inside_table-3.true-raw))

pub overflow_sub-left : goal.overflow_sub-left
overflow_sub-left c = inside_order c.args.places c.args.left (sym c.inside_table.ensures ∙ not-false _ c.if-not-inside_table.false-raw)

pub overflow_sub-right : goal.overflow_sub-right
overflow_sub-right c = inside_order c.args.places c.args.right (sym c.inside_table-2.ensures ∙ not-false _ c.if-not-inside_table-2.false-raw)

pub returns : goal.returns
unfolding bad_jump
returns c =
    lacks_second _ c.inside_table.ensures c.if-not-inside_table.false-raw
    (lacks_second _ c.inside_table-2.ensures c.if-not-inside_table-2.false-raw
    (lacks_second _ c.inside_table-3.ensures c.if-not-inside_table-3.false-raw (ap not c.factors_fit.ensures)))
