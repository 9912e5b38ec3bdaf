-- SPDX-FileCopyrightText: 2026 The PPVM Authors
-- SPDX-License-Identifier: Apache-2.0

-- What lasts over the loop of `codes::codes_from_word`.
use mathlib.Core.Path.{◌≡◌}
use mathlib.Core.List.{◌++◌}
use lib.ListN.{drop}
use Rattle.word.specs.Count.{tabulate}
use Rattle.word.specs.Word.{letter_at}
use Rattle.notation.proofs.codes.codes_from_word.Given as goal

abbrev pub invariant-loop-q : goal.invariant-loop-q
invariant-loop-q l = l.out ≡ tabulate l.q (letter_at l.w) ++ drop l.q l.initial.out
