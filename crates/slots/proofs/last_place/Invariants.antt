-- SPDX-FileCopyrightText: 2026 The PPVM Authors
-- SPDX-License-Identifier: Apache-2.0

-- What lasts over the loop of `last_place`, and what falls.
use lib.ListN.{length}
use Rattle.word.specs.Flat.{words}
use Rattle.slots.proofs.SlotLaws.{Follows}
use Rattle.slots.proofs.last_place.Given as goal

abbrev pub invariant-loop-at : goal.invariant-loop-at
invariant-loop-at l = Follows (length l.heads) l.w (words l.lanes) (length (words l.lanes)) l.at

abbrev pub decreases-loop-at : goal.decreases-loop-at
decreases-loop-at l = l.at
