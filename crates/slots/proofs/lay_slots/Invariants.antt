-- SPDX-FileCopyrightText: 2026 The PPVM Authors
-- SPDX-License-Identifier: Apache-2.0

-- What lasts over the loop of `lay_slots`.
use Rattle.word.specs.Flat.{words}
use Rattle.slots.proofs.SlotLaws.{Laying}
use Rattle.slots.proofs.lay_slots.Given as goal

abbrev pub invariant-loop-i : goal.invariant-loop-i
invariant-loop-i l = Laying (words l.lanes) l.initial.heads l.initial.nexts l.heads l.nexts l.i
