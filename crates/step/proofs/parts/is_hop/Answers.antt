-- SPDX-FileCopyrightText: 2026 The PPVM Authors
-- SPDX-License-Identifier: Apache-2.0

-- `parts::is_hop` meets its contract. Assumes nothing.
use borrow.Author.Tests.{ne_eqb}
use Rattle.step.proofs.parts.is_hop.Goals as goal

pub returns-then-part-eq1 : goal.returns-then-part-eq1
returns-then-part-eq1 c = rw c.if-part-eq1.true

pub returns : goal.returns
returns c = rw (ne_eqb _ 1 c.if-part-eq1.false)
