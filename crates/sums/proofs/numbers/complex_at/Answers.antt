-- SPDX-FileCopyrightText: 2026 The PPVM Authors
-- SPDX-License-Identifier: Apache-2.0

-- `numbers::complex_at` meets its contract: its two parts stand side by side. Assumes nothing.
use mathlib.Core.Path.{sym}
use Rattle.sums.proofs.NumberLaws.{complexes_at}
use native.Mathlib.Omega.{arith}
use Rattle.sums.proofs.numbers.complex_at.Goals as goal

pub returns : goal.returns
returns c = sym (complexes_at _ _ (omega arith))
