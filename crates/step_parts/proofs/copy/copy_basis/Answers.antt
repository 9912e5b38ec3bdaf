-- SPDX-FileCopyrightText: 2026 The PPVM Authors
-- SPDX-License-Identifier: Apache-2.0

-- `copy::copy_basis` meets its contract: words, then numbers. Assumes nothing.
use borrow.Author.Rules.{rules}
use Rattle.step_parts.proofs.copy.copy_basis.Goals as goal

pub overflow_mul-len : goal.overflow_mul-len
overflow_mul-len c = search (c.requires.0, c.well_formed.0, rules)

pub copy_lanes-requires : goal.copy_lanes-requires
copy_lanes-requires c = (c.requires.0, c.requires.2)

pub copy_first-requires : goal.copy_first-requires
copy_first-requires c = (c.requires.1, c.requires.3)

pub returns : goal.returns
returns c = (c.copy_lanes.ensures, c.copy_first.ensures)
