-- SPDX-FileCopyrightText: 2026 The PPVM Authors
-- SPDX-License-Identifier: Apache-2.0

-- `tables::copy_places` meets its contract. Assumes nothing.
use Rattle.generator.proofs.TableLaws.{copied_first}
use Rattle.generator.proofs.tables.copy_places.Goals as goal

pub returns : goal.returns
returns c = copied_first c.args.from.now c.args.count c.args.to.now _ c.requires.0 c.requires.1 c.copy_table.ensures
