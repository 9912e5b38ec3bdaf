-- SPDX-FileCopyrightText: 2026 The PPVM Authors
-- SPDX-License-Identifier: Apache-2.0

-- An operator over f64 that is exactly one over the whole numbers, with parts of at most b.
use Rattle.std.specs.Prelude.{ℕ, List}
use Rattle.number.specs.Whole.{whole}
use Rattle.number.specs.Floats.{floats}
use Rattle.number.specs.Exact.{IsG, Within}
use Rattle.gksl.specs.Operator.{Onto}
use Rattle.gksl.specs.Words.{pauli}
use Rattle.model_laws.specs.Related.{Like}

abbrev pub Exactly : ℕ → List (Onto floats pauli) → List (Onto whole pauli) → Type 0
Exactly b A G = Like floats whole pauli (λ _ x g. IsG x g × Within b g) A G
