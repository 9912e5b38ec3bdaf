-- SPDX-FileCopyrightText: 2026 The PPVM Authors
-- SPDX-License-Identifier: Apache-2.0

-- What lasts over the loop of `indexed::mark_range`.
use Rattle.rules_by_index.proofs.IndexLaws.{RangeState}
use Rattle.rules_by_index.proofs.indexed.mark_range.Given as goal

abbrev pub invariant-loop-i : goal.invariant-loop-i
invariant-loop-i l = RangeState l.row l.n l.j l.t_words l.fn.range.start l.fn.range.end l.initial.index l.index l.i
