-- SPDX-FileCopyrightText: 2026 The PPVM Authors
-- SPDX-License-Identifier: Apache-2.0

-- `test::bad_general` meets its contract. Assumes nothing.
use mathlib.Core.Path.{ap}
use mathlib.Core.Bool.{not}
use Rattle.model.proofs.Choices.{lacks_first, lacks_second}
use Rattle.model.specs.Tested.{bad_jump}
use Rattle.model.proofs.test.bad_general.Goals as goal

pub returns-then-not-inside_table : goal.returns-then-not-inside_table
unfolding bad_jump
returns-then-not-inside_table c = lacks_first _ c.inside_table.ensures c.if-not-inside_table.true-raw

pub returns-then-not-inside_table-2 : goal.returns-then-not-inside_table-2
unfolding bad_jump
returns-then-not-inside_table-2 c = lacks_second _ c.inside_table.ensures c.if-not-inside_table.false-raw (lacks_first _ c.inside_table-2.ensures c.if-not-inside_table-2.true-raw)

pub returns : goal.returns
unfolding bad_jump
returns c = lacks_second _ c.inside_table.ensures c.if-not-inside_table.false-raw (lacks_second _ c.inside_table-2.ensures c.if-not-inside_table-2.false-raw (ap not c.in_range.ensures))
