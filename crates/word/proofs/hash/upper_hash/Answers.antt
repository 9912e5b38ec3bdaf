-- SPDX-FileCopyrightText: 2026 The PPVM Authors
-- SPDX-License-Identifier: Apache-2.0

-- `hash::upper_hash` meets its contract: lanes of 0 add nothing. Assumes nothing.
use Rattle.word.specs.Hash.{upper_hash}
use Rattle.word.proofs.HashLaws.{upper_none}
use Rattle.word.proofs.hash.upper_hash.Goals as goal

pub returns-then-x2-x3-eq0 : goal.returns-then-x2-x3-eq0
returns-then-x2-x3-eq0 c = upper_none _ _ _ _ c.if-x2-x3-eq0.true

pub returns : goal.returns
unfolding upper_hash
returns c = rw (c.lane_hash-a.ensures, c.lane_hash-b.ensures, c.lane_hash-c.ensures, c.lane_hash-d.ensures)
