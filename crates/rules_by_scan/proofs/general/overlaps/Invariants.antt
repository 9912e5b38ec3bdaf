-- SPDX-FileCopyrightText: 2026 The PPVM Authors
-- SPDX-License-Identifier: Apache-2.0

-- What lasts over the loop of `general::overlaps`.
use Rattle.rules_by_scan.proofs.GeneralLaws.{NoneBefore}
use Rattle.rules_by_scan.proofs.general.overlaps.Given as goal

abbrev pub invariant-loop-i : goal.invariant-loop-i
invariant-loop-i l = NoneBefore l.words l.fn.range l.p l.i
