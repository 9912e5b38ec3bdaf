-- SPDX-FileCopyrightText: 2026 The PPVM Authors
-- SPDX-License-Identifier: Apache-2.0

-- What lasts over the loop of `largest::keep_to`.
use Rattle.keep.proofs.LargestLaws.{Keeping}
use Rattle.keep.proofs.largest.keep_to.Given as goal

abbrev pub invariant-loop-i : goal.invariant-loop-i
invariant-loop-i l = Keeping l.cut l.coeffs l.fixed l.last l.taken l.i l.kept
