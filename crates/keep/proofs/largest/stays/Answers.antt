-- SPDX-FileCopyrightText: 2026 The PPVM Authors
-- SPDX-License-Identifier: Apache-2.0

-- `largest::stays` meets its contract. Assumes nothing.
use borrow.Author.Tests.{lt-ltb, le-ltb}
use Rattle.keep.proofs.largest.stays.Goals as goal

pub returns-then-last-i : goal.returns-then-last-i
returns-then-last-i c = rw (lt-ltb _ _ c.if-last-i.true, c.magnitude-size.ensures)

pub returns : goal.returns
returns c = rw (le-ltb _ _ c.if-last-i.false, c.magnitude-size.ensures)
