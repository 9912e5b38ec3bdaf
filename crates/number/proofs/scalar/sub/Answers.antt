-- SPDX-FileCopyrightText: 2026 The PPVM Authors
-- SPDX-License-Identifier: Apache-2.0

-- `scalar::sub` meets its contract: part by part. Assumes nothing.
use mathlib.Core.Path.{refl}
use Rattle.number.specs.Numbers.{sub_c}
use Rattle.number.proofs.scalar.sub.Goals as goal

pub returns : goal.returns
unfolding sub_c
returns c = refl
