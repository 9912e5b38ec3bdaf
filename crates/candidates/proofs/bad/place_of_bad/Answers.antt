-- SPDX-FileCopyrightText: 2026 The PPVM Authors
-- SPDX-License-Identifier: Apache-2.0

-- `bad::place_of_bad` meets its contract. Assumes nothing.
use mathlib.Core.Path.{ap, ◌∙◌}
use mathlib.Core.List.{List}
use lib.ListN.{length}
use native.Mathlib.Omega.{arith}
use Rattle.word.specs.Flat.{words as words_in}
use Rattle.word.specs.Order.{before}
use Rattle.word.specs.declared.word.Word.{Word}
use Rattle.candidates.specs.Between.{those}
use Rattle.candidates.proofs.bad.place_of_bad.Goals as goal

pub word_at-w-requires : goal.word_at-w-requires
word_at-w-requires c = omega (arith, c.requires.0, c.lowest_bad-q.ensures.inside)

pub returns : goal.returns
returns c =
    let ws : List Word = words_in c.args.words.now in
    record { at = c.lowest_bad-q.result; lowest = c.lowest_bad-q.ensures; count = c.count_before.ensures ∙ ap (λ (w : Word). length (those (λ (v : Word). before v w) ws)) c.word_at-w.ensures }
