-- SPDX-FileCopyrightText: 2026 The PPVM Authors
-- SPDX-License-Identifier: Apache-2.0

-- `test::bad_pauli` meets its contract. Assumes nothing.
use mathlib.Core.Path.{ap}
use mathlib.Core.Bool.{not}
use borrow.Author.Tests.{lt-ltb, le-ltb}
use Rattle.model.specs.Tested.{bad_jump}
use Rattle.model.proofs.test.bad_pauli.Goals as goal

pub returns-then-places-term : goal.returns-then-places-term
unfolding bad_jump
returns-then-places-term c = let a = c.args in rw (le-ltb a.term a.places c.if-places-term.true)

pub returns : goal.returns
unfolding bad_jump
returns c = let a = c.args in rw (lt-ltb a.term a.places c.if-places-term.false) (ap not c.bounded.ensures)
