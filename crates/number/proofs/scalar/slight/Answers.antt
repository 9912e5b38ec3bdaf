-- SPDX-FileCopyrightText: 2026 The PPVM Authors
-- SPDX-License-Identifier: Apache-2.0

-- `scalar::slight` meets its contract, by that of the magnitude. Assumes nothing.
use mathlib.Core.Path.{ap}
use lib.Ieee.{Float, le}
use Rattle.number.specs.Floats.{tolerance}
use Rattle.number.proofs.scalar.slight.Goals as goal

pub returns : goal.returns
returns c = ap (λ (m : Float). le m tolerance) c.magnitude.ensures
