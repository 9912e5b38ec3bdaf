-- SPDX-FileCopyrightText: 2026 The PPVM Authors
-- SPDX-License-Identifier: Apache-2.0

-- Two operators, word by word: the same words in the same order, and numbers in a relation.
use Rattle.std.specs.Prelude.{◌≡◌, List, [], ◌∷◌}
use Rattle.number.specs.Numbers.{Numbers, Cx}
use Rattle.gksl.specs.Operator.{Words, Onto}

abbrev pub Like : (N M : Numbers) (S : Words) → (S.Word → Cx N → Cx M → Type 0) → List (Onto N S) → List (Onto M S) → Type 0
Like N M S R [] [] = Unit {0}
Like N M S R [] (b ∷ B) = ⊥
Like N M S R (a ∷ A) [] = ⊥
Like N M S R (a ∷ A) (b ∷ B) = (a.word ≡ b.word) × R a.word a.num b.num × Like N M S R A B
