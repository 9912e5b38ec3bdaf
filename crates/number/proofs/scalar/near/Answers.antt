-- SPDX-FileCopyrightText: 2026 The PPVM Authors
-- SPDX-License-Identifier: Apache-2.0

-- `scalar::near` meets its contract, by that of the larger of two. Assumes nothing.
use mathlib.Core.Path.{ap}
use lib.Ieee.{Float, binary64, le, mul}
use Rattle.number.specs.Floats.{hermiticity_squared}
use Rattle.number.proofs.scalar.near.Goals as goal

pub returns : goal.returns
returns c = ap (λ (m : Float). le c.args.square (mul binary64 hermiticity_squared m)) c.larger.ensures
