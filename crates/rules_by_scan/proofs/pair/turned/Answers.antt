-- SPDX-FileCopyrightText: 2026 The PPVM Authors
-- SPDX-License-Identifier: Apache-2.0

-- `pair::turned` meets its contract. Assumes nothing.
use lib.Ieee.{neg}
use borrow.Author.Rules.{rules}
use Rattle.rules_by_scan.proofs.pair.turned.Goals as goal

pub returns-then-minus : goal.returns-then-minus
unfolding neg
returns-then-minus c = search rules
