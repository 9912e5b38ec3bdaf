-- SPDX-FileCopyrightText: 2026 The PPVM Authors
-- SPDX-License-Identifier: Apache-2.0

-- What lasts over the loop of `raw_at`.
use Rattle.raw_norm.proofs.FrontLaws.{Summing}
use Rattle.raw_norm.proofs.raw_at.Given as goal

abbrev pub invariant-loop-k : goal.invariant-loop-k
invariant-loop-k l = Summing l.columns l.values l.start l.c l.raw l.k
