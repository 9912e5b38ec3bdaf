-- SPDX-FileCopyrightText: 2026 The PPVM Authors
-- SPDX-License-Identifier: Apache-2.0

-- `write::write_entries` meets its contract: 15, then 13 for the text, and else the text. Assumes nothing.
use Rattle.matrix_market.proofs.WriteLaws.{too_large_lem, entries, no_room, room, all_written}
use Rattle.matrix_market.proofs.write.write_entries.Goals as goal

pub returns-then-first-count : goal.returns-then-first-count
returns-then-first-count c =
    let a = c.args in
    too_large_lem a.count a.n a.rows.now a.columns.now a.values.now a.text.now c.requires.0 c.requires.1 c.requires.2 _ c.first_too_large-first.ensures c.if-first-count.true

pub text_fits-fits-requires : goal.text_fits-fits-requires
text_fits-fits-requires c =
    let a = c.args in
    entries a.count a.n a.rows.now a.columns.now a.values.now a.text.now c.requires.0 c.requires.1 c.requires.2 _ c.first_too_large-first.ensures c.if-first-count.false

pub returns-then-not-fits : goal.returns-then-not-fits
returns-then-not-fits c =
    let a = c.args in
    no_room a.count a.n a.rows.now a.columns.now a.values.now a.text.now c.requires.0 c.requires.1 c.requires.2 _ c.first_too_large-first.ensures c.if-first-count.false _ c.text_fits-fits.ensures c.if-not-fits.true-raw

pub write_text-requires : goal.write_text-requires
write_text-requires c =
    let a = c.args in
    (entries a.count a.n a.rows.now a.columns.now a.values.now a.text.now c.requires.0 c.requires.1 c.requires.2 _ c.first_too_large-first.ensures c.if-first-count.false, room a.count a.n a.rows.now a.columns.now a.values.now a.text.now c.requires.0 c.requires.1 c.requires.2 _ c.first_too_large-first.ensures c.if-first-count.false _ c.text_fits-fits.ensures c.if-not-fits.false-raw)

pub returns : goal.returns
returns c =
    let a = c.args in
    all_written a.count a.n a.rows.now a.columns.now a.values.now a.text.now c.requires.0 c.requires.1 c.requires.2 _ c.first_too_large-first.ensures c.if-first-count.false _ c.text_fits-fits.ensures c.if-not-fits.false-raw _ _ c.write_text.ensures.0 c.write_text.ensures.1
