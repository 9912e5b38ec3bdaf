-- SPDX-FileCopyrightText: 2026 The PPVM Authors
-- SPDX-License-Identifier: Apache-2.0

-- `beside::stays_at` meets its contract. Assumes nothing.
use Rattle.candidates.specs.Between.{goes_ahead, stays_beside}
use Rattle.candidates.proofs.beside.stays_at.Goals as goal

pub returns-then-size-cut : goal.returns-then-size-cut
unfolding stays_beside goes_ahead
returns-then-size-cut c =
    rw (← c.magnitude-size.ensures, ← c.magnitude-cut.ensures, c.if-size-cut.true)

pub returns-then-cut-size : goal.returns-then-cut-size
unfolding stays_beside goes_ahead
returns-then-cut-size c =
    rw (← c.magnitude-size.ensures, ← c.magnitude-cut.ensures, c.if-size-cut.false, c.if-cut-size.true)

pub returns : goal.returns
unfolding stays_beside goes_ahead
returns c =
    rw (← c.magnitude-size.ensures, ← c.magnitude-cut.ensures, c.if-size-cut.false, c.if-cut-size.false, c.is_before-later.ensures, c.word_at-w.ensures)
