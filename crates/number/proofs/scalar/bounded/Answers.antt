-- SPDX-FileCopyrightText: 2026 The PPVM Authors
-- SPDX-License-Identifier: Apache-2.0

-- `scalar::bounded` meets its contract: the literal is 2^620. Assumes nothing.
use mathlib.Core.Path.{ap}
use mathlib.Core.Bool.{false}
use lib.IntN.{pos}
use lib.Ieee.{Float, fin, le, of_bits}
use Rattle.number.specs.Floats.{bounded}
use Rattle.number.proofs.scalar.bounded.Goals as goal

pub returns : goal.returns
unfolding bounded of_bits
returns c = ap (λ (m : Float). le m (fin false 1 (pos 620))) c.magnitude.ensures
