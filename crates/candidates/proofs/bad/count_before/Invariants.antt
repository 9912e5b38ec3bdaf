-- SPDX-FileCopyrightText: 2026 The PPVM Authors
-- SPDX-License-Identifier: Apache-2.0

-- What lasts over the loop of `bad::count_before`.
use Rattle.word.specs.Flat.{words as words_in}
use Rattle.word.specs.Order.{before}
use Rattle.word.specs.declared.word.Word.{Word}
use Rattle.candidates.proofs.ThoseLaws.{Counting}
use Rattle.candidates.proofs.bad.count_before.Given as goal

abbrev pub invariant-loop-i : goal.invariant-loop-i
invariant-loop-i l = Counting (λ (v : Word). before v l.w) (words_in l.words) l.count l.i
