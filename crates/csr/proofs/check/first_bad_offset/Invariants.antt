-- SPDX-FileCopyrightText: 2026 The PPVM Authors
-- SPDX-License-Identifier: Apache-2.0

-- What lasts over the loop of `check::first_bad_offset`.
use mathlib.Core.Path.{◌≡◌}
use Prim.Native.Nat.{◌-◌}
use lib.ListN.{get_or}
use Rattle.lent.proofs.Firsts.{NoneBefore}
use Rattle.csr.specs.Lent.{bad_offset}
use Rattle.csr.proofs.check.first_bad_offset.Given as goal

abbrev pub invariant-loop-k : goal.invariant-loop-k
invariant-loop-k l = (l.before ≡ get_or l.offsets (l.k - 1) 0) × NoneBefore (bad_offset l.rows l.count l.offsets) l.k
