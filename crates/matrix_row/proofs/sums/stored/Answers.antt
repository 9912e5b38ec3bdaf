-- SPDX-FileCopyrightText: 2026 The PPVM Authors
-- SPDX-License-Identifier: Apache-2.0

-- `sums::stored` meets its contract. Assumes nothing.
use Rattle.matrix_row.proofs.sums.stored.Goals as goal

pub returns : goal.returns
returns c = rw c.if-overwrite.false
