-- SPDX-FileCopyrightText: 2026 The PPVM Authors
-- SPDX-License-Identifier: Apache-2.0

-- `scalar::mul` meets its contract: (ac − bd, ad + bc). Assumes nothing.
use mathlib.Core.Path.{refl}
use Rattle.number.specs.Numbers.{mul_c}
use Rattle.number.proofs.scalar.mul.Goals as goal

pub returns : goal.returns
unfolding mul_c
returns c = refl
