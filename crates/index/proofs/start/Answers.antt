-- SPDX-FileCopyrightText: 2026 The PPVM Authors
-- SPDX-License-Identifier: Apache-2.0

-- `start` meets its contract. A whole lane is left, and all lanes after it. Assumes nothing.
use Rattle.index.proofs.Cursors.{left_whole}
use native.Mathlib.Omega.{arith}
use Rattle.index.proofs.start.Goals as goal

pub returns : goal.returns
returns c = (left_whole c.args.row c.args.mask.now 0 (omega arith), omega arith)
