-- SPDX-FileCopyrightText: 2026 The PPVM Authors
-- SPDX-License-Identifier: Apache-2.0

-- `csr::list_rows` meets its contract. Assumes nothing.
use Rattle.generator.proofs.ListingLaws.{rows_refused, rows_sorted}
use Rattle.generator.proofs.csr.list_rows.Goals as goal

pub returns-in_default : goal.returns-in_default
returns-in_default c = (rows_refused c.args.n c.args.offsets.now c.args.columns.now c.args.values.now c.args.stage_rows.now c.args.stage_columns.now c.args.stage_values.now c.args.staged _ c.in_default.is, c.clear_lanes.ensures)

pub sort_rows-requires : goal.sort_rows-requires
sort_rows-requires c =
    let h = c.requires.0 in
    let e = c.in-Ok.is in
    (h.rowed _ e, c.requires.1, c.requires.2, h.columns_long _ e, h.values_long _ e)

pub returns : goal.returns
returns c =
    (rows_sorted c.args.n c.args.offsets.now c.args.columns.now c.args.values.now c.args.stage_rows.now c.args.stage_columns.now c.args.stage_values.now c.args.staged _ c.in-Ok.is _ _ _ c.sort_rows.ensures.0, c.sort_rows.ensures.1)
