-- SPDX-FileCopyrightText: 2026 The PPVM Authors
-- SPDX-License-Identifier: Apache-2.0

-- What lasts over the loop of `repeat::search_slots`.
use Rattle.word.specs.Flat.{words}
use Rattle.lent.proofs.Firsts.{NoneBefore}
use Rattle.columns.specs.Repeats.{repeats_at}
use Rattle.columns.proofs.repeat.search_slots.Given as goal

abbrev pub invariant-loop-i : goal.invariant-loop-i
invariant-loop-i l = NoneBefore (repeats_at (words l.lanes)) l.i
