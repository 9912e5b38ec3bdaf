-- SPDX-FileCopyrightText: 2026 The PPVM Authors
-- SPDX-License-Identifier: Apache-2.0

-- `generator::list_staged` meets its contract. Assumes nothing.
use Rattle.refusal.proofs.Told.{handed_on}
use Rattle.generator.proofs.ListingLaws.{list_refused, list_copied}
use Rattle.generator.proofs.generator.list_staged.Goals as goal

pub returns-in_err-count : goal.returns-in_err-count
returns-in_err-count c =
    rw (handed_on _ _ c.from_residual.ensures.1)
    (list_refused c.args.rows.now c.args.columns.now c.args.values.now c.args.stage_rows.now c.args.stage_columns.now c.args.stage_values.now c.args.staged _ c.in_err-count.was)

pub copy_places-requires : goal.copy_places-requires
copy_places-requires c = ((c.requires.0.inside _ c.in_ok-count.was).rows_long, (c.requires.1.inside _ c.in_ok-count.was).rows_long)

pub copy_places-requires-2 : goal.copy_places-requires-2
copy_places-requires-2 c = ((c.requires.0.inside _ c.in_ok-count.was).columns_long, (c.requires.1.inside _ c.in_ok-count.was).columns_long)

pub copy_values-requires : goal.copy_values-requires
copy_values-requires c = ((c.requires.0.inside _ c.in_ok-count.was).values_long, (c.requires.1.inside _ c.in_ok-count.was).values_long)

pub returns : goal.returns
returns c = list_copied c.args.rows.now c.args.columns.now c.args.values.now c.args.stage_rows.now c.args.stage_columns.now c.args.stage_values.now c.args.staged _ c.in_ok-count.was (c.requires.0.inside _ c.in_ok-count.was) _ _ _ c.copy_places.ensures c.copy_places-2.ensures c.copy_values.ensures
