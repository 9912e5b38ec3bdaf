-- SPDX-FileCopyrightText: 2026 The PPVM Authors
-- SPDX-License-Identifier: Apache-2.0

-- `slot_of` meets its contract. Assumes nothing.
use Rattle.slots.specs.Between.{slot_of}
use Rattle.slots.proofs.slot_of.Goals as goal

pub returns-then-slots-eq-FEW_SLOTS : goal.returns-then-slots-eq-FEW_SLOTS
unfolding slot_of
returns-then-slots-eq-FEW_SLOTS c = rw (c.word_hash-h.ensures, c.if-slots-eq-FEW_SLOTS.true)

pub returns : goal.returns
unfolding slot_of
returns c = rw c.word_hash-h.ensures
