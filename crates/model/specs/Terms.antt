-- SPDX-FileCopyrightText: 2026 The PPVM Authors
-- SPDX-License-Identifier: Apache-2.0

-- Terms in flat tables: a complex number onto a word.
use Rattle.std.specs.Prelude.{ℕ, ◌-◌, List, Float, get_or, take, drop}
use Rattle.word.specs.Word.{identity}
use Rattle.word.specs.Flat.{words}
use Rattle.number.specs.Floats.{floats}
use Rattle.gksl.specs.Operator.{Onto}
use Rattle.gksl.specs.Words.{pauli}
use Rattle.sums.specs.Numbers.{complexes, no_number}
use Rattle.sums.specs.Sums.{rows}
use Rattle.model.specs.declared.stored.Range.{Range}

abbrev pub Term : Type 0
Term = Onto floats pauli

abbrev pub term_at : List ℕ → List Float → ℕ → Onto floats pauli
term_at lanes numbers i = record { num = get_or (complexes numbers) i no_number; word = get_or (words lanes) i identity }

-- the terms from place s to before place e
abbrev pub terms_in : List ℕ → List Float → ℕ → ℕ → List (Onto floats pauli)
terms_in lanes numbers s e = take (e - s) (drop s (rows (words lanes) (complexes numbers)))

abbrev pub terms_of : List ℕ → List Float → Range → List (Onto floats pauli)
terms_of lanes numbers r = terms_in lanes numbers r.start r.end
