-- SPDX-FileCopyrightText: 2026 The PPVM Authors
-- SPDX-License-Identifier: Apache-2.0

-- `nth::find_last` stays in its tables. Assumes nothing.
use mathlib.Core.Path.{sym}
use lib.Seq.{length-take-le}
use native.Mathlib.Omega.{arith}
use Rattle.keep.proofs.UnflaggedLaws.{unflagged_below}
use Rattle.keep.proofs.nth.find_last.Goals as goal

pub slice_bounds-nth_largest-end-2 : goal.slice_bounds-nth_largest-end-2
slice_bounds-nth_largest-end-2 c = sym (length-take-le _ c.lay_unflagged-free.new.out (omega arith))

pub nth_largest-cut-requires : goal.nth_largest-cut-requires
nth_largest-cut-requires c =
    let f = c.lay_unflagged-free in
    (omega arith, rw (f.ensures.1, sym c.requires.0) (unflagged_below c.args.fixed.now))
