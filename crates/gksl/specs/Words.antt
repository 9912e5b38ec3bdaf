-- SPDX-FileCopyrightText: 2026 The PPVM Authors
-- SPDX-License-Identifier: Apache-2.0

-- Pauli words as the words of the generator.
use Rattle.word.specs.Product.{mul, phase}
use Rattle.word.specs.Order.{before, same}
use Rattle.word.specs.Register.{share}
use Rattle.word.specs.declared.word.Word.{Word}
use Rattle.gksl.specs.Operator.{Words}

abbrev pub pauli : Words
pauli = record { Word = Word; mul = mul; phase = phase; alike = same; below = before; meets = share }
