-- SPDX-FileCopyrightText: 2026 The PPVM Authors
-- SPDX-License-Identifier: Apache-2.0

-- `listing::list_held` meets its contract. Assumes nothing.
use native.Mathlib.Omega.{arith}
use Rattle.passes.specs.Between.{rows_at}
use Rattle.leakage.proofs.OutLaws.{listing_full, listing_done}
use Rattle.leakage.proofs.listing.list_held.Goals as goal

pub returns-then-places-count : goal.returns-then-places-count
returns-then-places-count c =
    let a = c.args in
    listing_full a.tau_add a.out_words.now a.out_values.now (rows_at a.words.now a.sums.now a.order.now) _ _ c.count_above-count.ensures c.smaller-places.ensures c.if-places-count.true

pub list_above-requires : goal.list_above-requires
list_above-requires c =
    let n = c.count_above-count.ensures in
    let p = c.smaller-places.ensures in
    (c.requires, omega (arith, n, p, c.if-places-count.false), omega (arith, n, p, c.if-places-count.false))

pub returns : goal.returns
returns c =
    let a = c.args in
    let e = c.list_above.ensures in
    listing_done a.tau_add a.out_words.now a.out_values.now (rows_at a.words.now a.sums.now a.order.now) _ _ c.count_above-count.ensures c.smaller-places.ensures _ _ c.if-places-count.false e.0 e.1
