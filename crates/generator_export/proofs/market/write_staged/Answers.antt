-- SPDX-FileCopyrightText: 2026 The PPVM Authors
-- SPDX-License-Identifier: Apache-2.0

-- `market::write_staged` meets its contract: the text of the entries, or the refusal. Assumes nothing.
use Rattle.refusal.proofs.Told.{handed_on}
use Rattle.generator_export.proofs.CallLaws.{staged_text, staged_refused}
use Rattle.generator_export.proofs.market.write_staged.Goals as goal

pub write_entries-requires : goal.write_entries-requires
write_entries-requires c = let r = c.requires.inside _ c.in_ok-count.was in (r.rows_long, r.columns_long, r.values_long)

pub returns : goal.returns
returns c =
    let a = c.args in
    let e = c.in_ok-count.was in
    staged_text a.n a.text.now a.stage_rows.now a.stage_columns.now a.stage_values.now a.staged _ e (c.requires.inside _ e) _ c.write_entries.ensures

pub returns-in_err-count : goal.returns-in_err-count
returns-in_err-count c =
    let a = c.args in
    rw (handed_on _ _ c.from_residual.ensures.1) (staged_refused a.n a.text.now a.stage_rows.now a.stage_columns.now a.stage_values.now a.staged _ c.in_err-count.was)
