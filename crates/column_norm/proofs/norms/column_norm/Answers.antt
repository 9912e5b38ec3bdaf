-- SPDX-FileCopyrightText: 2026 The PPVM Authors
-- SPDX-License-Identifier: Apache-2.0

-- `norms::column_norm` meets its contract, by those of the magnitudes. Assumes nothing.
use mathlib.Core.Path.{ap₂}
use lib.Ieee.{Float}
use Rattle.number.specs.Floats.{floats}
use Rattle.column_norm.specs.Columns.{column_norm}
use Rattle.column_norm.proofs.norms.column_norm.Goals as goal

pub returns : goal.returns
unfolding column_norm
returns c = ap₂ (λ (a b : Float). floats.plus (floats.less c.args.raw a) b) c.magnitude.ensures c.magnitude-2.ensures
