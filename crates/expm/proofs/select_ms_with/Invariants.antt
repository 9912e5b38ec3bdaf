-- SPDX-FileCopyrightText: 2026 The PPVM Authors
-- SPDX-License-Identifier: Apache-2.0

-- What lasts over the loop of `select_ms_with`.
use Rattle.expm.proofs.SelectLaws.{SelectState}
use Rattle.expm.proofs.select_ms_with.Given as goal

abbrev pub invariant-loop-i : goal.invariant-loop-i
invariant-loop-i l = SelectState l.t l.thresholds l.best l.i
