-- SPDX-FileCopyrightText: 2026 The PPVM Authors
-- SPDX-License-Identifier: Apache-2.0

-- `test::bad_entry` meets its contract. Assumes nothing.
use Rattle.model.proofs.ModelTests.{entry_kind, entry_jump}
use native.Mathlib.Omega.{arith}
use Rattle.model.proofs.test.bad_entry.Goals as goal

pub returns-then-jumps-j-gt2 : goal.returns-then-jumps-j-gt2
returns-then-jumps-j-gt2 c = let a = c.args in entry_kind a.places a.jumps.now a.rates.now a.j (omega arith)

pub returns : goal.returns
returns c = let a = c.args in entry_jump a.places a.jumps.now a.rates.now a.j c.if-jumps-j-gt2.false c.jump_at.ensures c.bad_jump.ensures
