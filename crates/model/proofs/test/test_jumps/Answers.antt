-- SPDX-FileCopyrightText: 2026 The PPVM Authors
-- SPDX-License-Identifier: Apache-2.0

-- `test::test_jumps` meets its contract: none of the entries before j fails. Assumes nothing.
use Rattle.model.specs.Between.{entry_fails}
use Rattle.lent.proofs.Firsts.{stops_here, stops_last}
use native.Mathlib.Omega.{arith}
use Rattle.model.proofs.test.test_jumps.Goals as goal

pub returns-then-bad_entry : goal.returns-then-bad_entry
returns-then-bad_entry c =
    let a = c.args in
    let l = c.loop-j in
    stops_here a.count (entry_fails a.places a.jumps.now a.rates.now) l.j (omega arith) l.invariant c.bad_entry.ensures c.if-bad_entry.true

pub returns : goal.returns
returns c =
    let a = c.args in
    let l = c.loop-j in
    stops_last a.count (entry_fails a.places a.jumps.now a.rates.now) l.j (omega arith) l.invariant
