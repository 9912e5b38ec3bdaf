-- SPDX-FileCopyrightText: 2026 The PPVM Authors
-- SPDX-License-Identifier: Apache-2.0

-- `numbers::set_complex` meets its contract: its two parts stand side by side. Assumes nothing.
use mathlib.Core.Path.{refl}
use lib.ListN.{length-set}
use Rattle.sums.proofs.NumberLaws.{complexes_set}
use native.Mathlib.Omega.{arith}
use Rattle.sums.proofs.numbers.set_complex.Goals as goal

pub bounds-table-at-2 : goal.bounds-table-at-2
bounds-table-at-2 c = simp length-set (omega arith)

pub returns : goal.returns
returns c = record { floats_are = refl; list = complexes_set _ _ _ _ (omega arith) }
