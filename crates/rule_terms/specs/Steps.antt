-- SPDX-FileCopyrightText: 2026 The PPVM Authors
-- SPDX-License-Identifier: Apache-2.0

-- Contracts between functions: a sandwich in two steps. The product of a and p is the same for each b; then comes that with b.
use Rattle.std.specs.Prelude.{◌+◌, ◌%◌, Float}
use Rattle.word.specs.Product.{phase, mul}
use Rattle.word.specs.declared.algebra.Phased.{Phased}
use Rattle.number.specs.Numbers.{mul_c, real_c, unit_c}
use Rattle.number.specs.Floats.{floats}
use Rattle.gksl.specs.Rules.{on_word, bare}
use Rattle.gksl.specs.Words.{pauli}
use Rattle.model.specs.Terms.{Term}

-- l is the product of a and p
unfoldable pub sandwich_from : Phased → Float → Term → Term → Term
sandwich_from l g a b =
    on_word floats pauli (mul_c floats (mul_c floats (bare floats pauli a b) (unit_c floats ((l.phase + phase l.word b.word) % 4))) (real_c floats g)) (mul l.word b.word)
