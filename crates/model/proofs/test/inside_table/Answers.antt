-- SPDX-FileCopyrightText: 2026 The PPVM Authors
-- SPDX-License-Identifier: Apache-2.0

-- `test::inside_table` meets its contract. Assumes nothing.
use Rattle.model.proofs.Ranges.{inside_turned, inside_end}
use Rattle.model.proofs.test.inside_table.Goals as goal

pub returns-then-r : goal.returns-then-r
returns-then-r c = let a = c.args in inside_turned a.places a.r c.if-r.true

pub returns : goal.returns
returns c = let a = c.args in inside_end a.places a.r c.if-r.false
