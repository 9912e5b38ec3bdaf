-- SPDX-FileCopyrightText: 2026 The PPVM Authors
-- SPDX-License-Identifier: Apache-2.0

-- What lasts over the loop of `sums::sum_rows`.
use Rattle.csr.proofs.WalkLaws.{Walking}
use Rattle.csr.proofs.sums.sum_rows.Given as goal

abbrev pub invariant-loop-r : goal.invariant-loop-r
invariant-loop-r l = Walking l.offsets l.columns l.values l.input l.overwrite l.output l.initial.work l.r l.work
