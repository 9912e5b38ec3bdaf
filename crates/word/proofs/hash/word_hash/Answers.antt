-- SPDX-FileCopyrightText: 2026 The PPVM Authors
-- SPDX-License-Identifier: Apache-2.0

-- `hash::word_hash` meets its contract. Assumes nothing.
use Rattle.word.specs.Hash.{lanes_hash, word_hash}
use Rattle.word.proofs.hash.word_hash.Goals as goal

pub returns : goal.returns
unfolding lanes_hash word_hash
returns c = rw (c.lane_hash-x0.ensures, c.lane_hash-x1.ensures, c.lane_hash-z0.ensures, c.lane_hash-z1.ensures, c.upper_hash-upper.ensures)
