-- SPDX-FileCopyrightText: 2026 The PPVM Authors
-- SPDX-License-Identifier: Apache-2.0

-- What lasts over the loop of `largest_raw`.
use Rattle.raw_norm.proofs.FrontLaws.{Ranking}
use Rattle.raw_norm.proofs.largest_raw.Given as goal

abbrev pub invariant-loop-c : goal.invariant-loop-c
invariant-loop-c l = Ranking l.columns l.values l.n l.norm l.k l.c
