-- SPDX-FileCopyrightText: 2026 The PPVM Authors
-- SPDX-License-Identifier: Apache-2.0

-- What lasts over the loop of `column::raw_of`.
use lib.ListN.{take}
use Rattle.word.specs.Flat.{words}
use Rattle.column_norm.proofs.ColumnLaws.{RawState}
use Rattle.column_norm.proofs.column.raw_of.Given as goal

abbrev pub invariant-loop-i : goal.invariant-loop-i
invariant-loop-i l = RawState (take l.len (words l.words)) l.count l.sum_words l.sums l.raw l.i
