-- SPDX-FileCopyrightText: 2026 The PPVM Authors
-- SPDX-License-Identifier: Apache-2.0

-- `scalar::add` meets its contract: part by part. Assumes nothing.
use mathlib.Core.Path.{refl}
use Rattle.number.specs.Numbers.{add_c}
use Rattle.number.proofs.scalar.add.Goals as goal

pub returns : goal.returns
unfolding add_c
returns c = refl
