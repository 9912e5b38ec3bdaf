-- SPDX-FileCopyrightText: 2026 The PPVM Authors
-- SPDX-License-Identifier: Apache-2.0

-- What lasts over the loop of `repeat::stood_before`.
use Rattle.word.specs.Flat.{words}
use Rattle.columns.proofs.RepeatLaws.{Comparing}
use Rattle.columns.proofs.repeat.stood_before.Given as goal

abbrev pub invariant-loop-i : goal.invariant-loop-i
invariant-loop-i l = Comparing l.w (words l.lanes) l.k l.i
