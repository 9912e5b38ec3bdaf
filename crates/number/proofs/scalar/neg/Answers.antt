-- SPDX-FileCopyrightText: 2026 The PPVM Authors
-- SPDX-License-Identifier: Apache-2.0

-- `scalar::neg` meets its contract: part by part. Assumes nothing.
use mathlib.Core.Path.{refl}
use Rattle.number.specs.Numbers.{neg_c}
use Rattle.number.proofs.scalar.neg.Goals as goal

pub returns : goal.returns
unfolding neg_c
returns c = refl
