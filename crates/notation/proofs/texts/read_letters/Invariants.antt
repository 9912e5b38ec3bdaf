-- SPDX-FileCopyrightText: 2026 The PPVM Authors
-- SPDX-License-Identifier: Apache-2.0

-- What lasts over the loop of `texts::read_letters`.
use mathlib.Core.Path.{◌≡◌}
use lib.ListN.{get_or, drop}
use Rattle.notation.specs.Text.{code_of, dropped, no_letter}
use Rattle.notation.proofs.TextLaws.{Passed, ReadTo}
use Rattle.notation.proofs.texts.read_letters.Given as goal

abbrev pub invariant-loop-i : goal.invariant-loop-i
invariant-loop-i l =
    (dropped (drop l.i l.text) ≡ drop l.q (dropped l.text)) × Passed no_letter l.q (dropped l.text) × ReadTo (λ k. code_of (get_or (dropped l.text) k 73)) l.q l.w
