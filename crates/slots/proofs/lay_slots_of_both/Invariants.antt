-- SPDX-FileCopyrightText: 2026 The PPVM Authors
-- SPDX-License-Identifier: Apache-2.0

-- What lasts over the loop of `lay_slots_of_both`.
use mathlib.Core.List.{◌++◌}
use Rattle.word.specs.Flat.{words}
use Rattle.slots.proofs.SlotLaws.{Laying}
use Rattle.slots.proofs.lay_slots_of_both.Given as goal

abbrev pub invariant-loop-k : goal.invariant-loop-k
invariant-loop-k l = Laying (words l.first ++ words l.second) l.initial.heads l.initial.nexts l.heads l.nexts l.k
