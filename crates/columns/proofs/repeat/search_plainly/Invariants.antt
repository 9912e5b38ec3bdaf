-- SPDX-FileCopyrightText: 2026 The PPVM Authors
-- SPDX-License-Identifier: Apache-2.0

-- What lasts over the loop of `repeat::search_plainly`.
use Rattle.word.specs.Flat.{words}
use Rattle.lent.proofs.Firsts.{NoneBefore}
use Rattle.columns.specs.Repeats.{repeats_at}
use Rattle.columns.proofs.repeat.search_plainly.Given as goal

abbrev pub invariant-loop-k : goal.invariant-loop-k
invariant-loop-k l = NoneBefore (repeats_at (words l.lanes)) l.k
