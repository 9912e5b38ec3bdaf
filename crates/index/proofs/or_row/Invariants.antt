-- SPDX-FileCopyrightText: 2026 The PPVM Authors
-- SPDX-License-Identifier: Apache-2.0

-- What lasts over the loop of `or_row`.
use Rattle.index.proofs.Rows.{Oring}
use Rattle.index.proofs.or_row.Given as goal

abbrev pub invariant-loop-i : goal.invariant-loop-i
invariant-loop-i l = Oring l.at l.index l.initial.mask l.mask l.i
