-- SPDX-FileCopyrightText: 2026 The PPVM Authors
-- SPDX-License-Identifier: Apache-2.0

-- What lasts over the loop of `flags::flag_large`.
use mathlib.Core.Path.{◌≡◌}
use mathlib.Core.List.{◌++◌}
use lib.ListN.{length, take, drop, replicate}
use Rattle.keep.specs.Pruned.{large_flags}
use Rattle.keep.proofs.flags.flag_large.Given as goal

abbrev pub invariant-loop-i : goal.invariant-loop-i
invariant-loop-i l = (length l.kept ≡ length l.initial.kept) × (l.kept ≡ take l.i (large_flags l.drop_tol (take (length l.initial.kept) l.coeffs) (replicate (length l.initial.kept) 0)) ++ drop l.i l.initial.kept)
