-- SPDX-FileCopyrightText: 2026 The PPVM Authors
-- SPDX-License-Identifier: Apache-2.0

-- What lasts over the loop of `beside::retain_beside`.
use Rattle.candidates.specs.Sums.{row}
use Rattle.candidates.specs.Between.{stays_beside}
use Rattle.candidates.proofs.BesideLaws.{Retaining}
use Rattle.candidates.proofs.beside.retain_beside.Given as goal

abbrev pub invariant-loop-i : goal.invariant-loop-i
invariant-loop-i l = Retaining (stays_beside (row l.last l.y)) l.initial.words l.initial.sums l.words l.sums l.held l.i
