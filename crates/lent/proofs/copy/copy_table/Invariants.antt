-- SPDX-FileCopyrightText: 2026 The PPVM Authors
-- SPDX-License-Identifier: Apache-2.0

-- What lasts over the loop of `copy::copy_table`.
use Rattle.std.proofs.Common.{◌≡◌, length, take}
use Rattle.lent.proofs.copy.copy_table.Given as goal

abbrev pub invariant-loop-k : goal.invariant-loop-k
invariant-loop-k g l = (length l.to ≡ length l.initial.to) × (take l.k l.to ≡ take l.k l.from)
