-- SPDX-FileCopyrightText: 2026 The PPVM Authors
-- SPDX-License-Identifier: Apache-2.0

-- What lasts over the loop of `beside::count_beside`.
use Rattle.word.specs.Flat.{words as words_in}
use Rattle.candidates.specs.Sums.{row}
use Rattle.candidates.specs.Tables.{rows}
use Rattle.candidates.specs.Between.{stays_beside}
use Rattle.candidates.proofs.ThoseLaws.{Counting}
use Rattle.candidates.proofs.beside.count_beside.Given as goal

abbrev pub invariant-loop-i : goal.invariant-loop-i
invariant-loop-i l = Counting (stays_beside (row l.last l.y)) (rows (words_in l.words) l.sums) l.count l.i
