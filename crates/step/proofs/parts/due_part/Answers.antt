-- SPDX-FileCopyrightText: 2026 The PPVM Authors
-- SPDX-License-Identifier: Apache-2.0

-- `parts::due_part` meets its contract. Assumes nothing.
use borrow.Author.Tests.{ne_eqb}
use Rattle.step.specs.Between.{due_of}
use Rattle.step.proofs.parts.due_part.Goals as goal

pub returns-then-part-eq3 : goal.returns-then-part-eq3
unfolding due_of
returns-then-part-eq3 c = rw c.if-part-eq3.true c.after_first.ensures

pub returns : goal.returns
unfolding due_of
returns c = rw (ne_eqb _ 3 c.if-part-eq3.false)
