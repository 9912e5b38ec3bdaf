-- SPDX-FileCopyrightText: 2026 The PPVM Authors
-- SPDX-License-Identifier: Apache-2.0

-- What lasts over the loop of `bad::lowest_bad`.
use Rattle.word.specs.Flat.{words as words_in}
use Rattle.candidates.proofs.BadLaws.{Lowest}
use Rattle.candidates.proofs.bad.lowest_bad.Given as goal

abbrev pub invariant-loop-i : goal.invariant-loop-i
invariant-loop-i l = Lowest (words_in l.words) l.sums l.q l.i
