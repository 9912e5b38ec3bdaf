-- SPDX-FileCopyrightText: 2026 The PPVM Authors
-- SPDX-License-Identifier: Apache-2.0

-- `write::write_header` meets its contract: the bytes of the constant are those of the definition. Assumes nothing.
use Rattle.matrix_market.specs.Text.{header}
use Rattle.matrix_market.proofs.write.write_header.Goals as goal

pub copy_bytes-requires : goal.copy_bytes-requires
unfolding header
copy_bytes-requires c = c.requires

pub returns : goal.returns
unfolding header
returns c = c.copy_bytes.ensures
