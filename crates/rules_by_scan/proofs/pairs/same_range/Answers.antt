-- SPDX-FileCopyrightText: 2026 The PPVM Authors
-- SPDX-License-Identifier: Apache-2.0

-- `pairs::same_range` meets its contract. Assumes nothing.
use Rattle.rules_by_scan.proofs.PairItems.{same_start, other_start}
use Rattle.rules_by_scan.proofs.pairs.same_range.Goals as goal

pub returns-then-a-b : goal.returns-then-a-b
returns-then-a-b c = same_start _ _ _ c.if-a-b.true

pub returns : goal.returns
returns c = other_start _ _ _ c.if-a-b.false
