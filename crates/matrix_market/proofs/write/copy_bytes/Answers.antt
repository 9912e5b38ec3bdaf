-- SPDX-FileCopyrightText: 2026 The PPVM Authors
-- SPDX-License-Identifier: Apache-2.0

-- `write::copy_bytes` meets its contract: the bytes stand over the first of the text. Assumes nothing.
use Rattle.matrix_market.proofs.LaidLaws.{laid_over}
use Rattle.matrix_market.proofs.write.copy_bytes.Goals as goal

pub returns : goal.returns
returns c = rw c.copy_table.ensures (laid_over c.args.from.now c.args.text.now c.requires)
