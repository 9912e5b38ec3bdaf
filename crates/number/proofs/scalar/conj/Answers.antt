-- SPDX-FileCopyrightText: 2026 The PPVM Authors
-- SPDX-License-Identifier: Apache-2.0

-- `scalar::conj` meets its contract: the imaginary part turned. Assumes nothing.
use mathlib.Core.Path.{refl}
use Rattle.number.specs.Numbers.{conj_c}
use Rattle.number.proofs.scalar.conj.Goals as goal

pub returns : goal.returns
unfolding conj_c
returns c = refl
