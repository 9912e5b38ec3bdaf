-- SPDX-FileCopyrightText: 2026 The PPVM Authors
-- SPDX-License-Identifier: Apache-2.0

-- `scalar::is_finite` meets its contract: a magnitude is below infinity exactly if the number is finite. Assumes nothing.
use mathlib.Core.Path.{ap, ◌∙◌}
use mathlib.Core.Bool.{false}
use lib.Ieee.{Float, inf, lt, div, of_bits}
use Rattle.number.proofs.RangeLaws.{below_infinity}
use Rattle.number.proofs.scalar.is_finite.Goals as goal

pub returns : goal.returns
unfolding div of_bits
returns c = ap (λ (m : Float). lt m (inf false)) c.magnitude.ensures ∙ below_infinity c.args.x
