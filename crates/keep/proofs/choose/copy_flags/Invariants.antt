-- SPDX-FileCopyrightText: 2026 The PPVM Authors
-- SPDX-License-Identifier: Apache-2.0

-- What lasts over the loop of `choose::copy_flags`.
use mathlib.Core.Path.{◌≡◌}
use mathlib.Core.List.{◌++◌, map}
use lib.ListN.{length, take, drop}
use Rattle.keep.specs.Chosen.{flag_of}
use Rattle.keep.proofs.choose.copy_flags.Given as goal

abbrev pub invariant-loop-i : goal.invariant-loop-i
invariant-loop-i l = (length l.kept ≡ length l.initial.kept) × (l.kept ≡ take l.i (map flag_of l.flags) ++ drop l.i l.initial.kept)
