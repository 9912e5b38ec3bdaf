-- SPDX-FileCopyrightText: 2026 The PPVM Authors
-- SPDX-License-Identifier: Apache-2.0

-- `near::put_rules_near` meets its contract: the terms, then the jumps and the pairs, that share a qubit with p, or that one of them finds no room. Assumes nothing.
use mathlib.Core.Path.{refl}
use native.Mathlib.Omega.{arith}
use Rattle.model.specs.Stored.{ModelTables}
use Rattle.model.proofs.StandsLaws.{tested_stands}
use Rattle.rules_by_scan.proofs.RuleLaws.{reals_full, reals_room, rest_puts}
use Rattle.rules_by_index.proofs.NearLaws.{reals_below, near_reals, jumps_below, near_entries}
use Rattle.model.specs.Between.{model_tables}
use Rattle.rules_by_index.proofs.near.put_rules_near.Goals as goal

pub union_rows-requires : goal.union_rows-requires
union_rows-requires c =
    let a = c.args in
    let t : ModelTables = model_tables a.h_words.now a.h_coeffs.now a.jumps.now a.rates.now a.t_words.now a.t_numbers.now in
    let k = tested_stands a.m t c.requires.1 in
    (c.requires.3, c.requires.5, omega (arith, c.row_lanes-h_row.ensures, k.few_reals))

pub put_reals_near-first-requires : goal.put_reals_near-first-requires
put_reals_near-first-requires c =
    let a = c.args in
    let t : ModelTables = model_tables a.h_words.now a.h_coeffs.now a.jumps.now a.rates.now a.t_words.now a.t_numbers.now in
    let k = tested_stands a.m t c.requires.1 in (
      c.requires.0,
      k.h_words_room,
      k.h_coeffs_room,
      omega (arith, c.union_rows.auto.mask, c.requires.5),
      omega (arith, c.row_lanes-h_row.ensures),
      omega (arith, c.row_lanes-h_row.ensures, k.few_reals),
      reals_below a.m t a.p a.h_index.now a.j_index.now k c.requires.2 c.requires.6 _ _ c.row_lanes-h_row.ensures c.union_rows.ensures,
    )

pub returns-in_default : goal.returns-in_default
returns-in_default c =
    let a = c.args in
    let t : ModelTables = model_tables a.h_words.now a.h_coeffs.now a.jumps.now a.rates.now a.t_words.now a.t_numbers.now in
    let k = tested_stands a.m t c.requires.1 in
    reals_full a.m t a.p a.room a.lanes.now a.sums.now c.requires.0 _ _ _ (near_reals a.m t a.p a.h_index.now a.j_index.now k c.requires.2 c.requires.6 _ _ c.row_lanes-h_row.ensures c.union_rows.ensures (c.put_reals_near-first.ensures t refl refl)) c.in_default.is

pub union_rows-requires-2 : goal.union_rows-requires-2
union_rows-requires-2 c =
    let a = c.args in
    let t : ModelTables = model_tables a.h_words.now a.h_coeffs.now a.jumps.now a.rates.now a.t_words.now a.t_numbers.now in
    let k = tested_stands a.m t c.requires.1 in
    (c.requires.4, omega (arith, c.union_rows.auto.mask, c.requires.5), omega (arith, c.row_lanes-j_row.ensures, k.few_jumps))

pub put_entries_near-requires : goal.put_entries_near-requires
put_entries_near-requires c =
    let a = c.args in
    let t : ModelTables = model_tables a.h_words.now a.h_coeffs.now a.jumps.now a.rates.now a.t_words.now a.t_numbers.now in
    let k = tested_stands a.m t c.requires.1 in (
      reals_room a.m t a.p a.room a.lanes.now a.sums.now c.requires.0 _ _ _ (near_reals a.m t a.p a.h_index.now a.j_index.now k c.requires.2 c.requires.6 _ _ c.row_lanes-h_row.ensures c.union_rows.ensures (c.put_reals_near-first.ensures t refl refl))
          _ c.in-Some.is c.put_reals_near-first.auto.lanes c.put_reals_near-first.auto.sums,
      k.jumps_room,
      k.rates_room,
      k.t_words_room,
      k.t_numbers_room,
      k.fits,
      omega (arith, c.union_rows-2.auto.mask, c.union_rows.auto.mask, c.requires.5),
      omega (arith, c.row_lanes-j_row.ensures),
      omega (arith, c.row_lanes-j_row.ensures, k.few_jumps),
      jumps_below a.m t a.p a.h_index.now a.j_index.now k c.requires.2 c.requires.6 _ _ c.row_lanes-j_row.ensures c.union_rows-2.ensures,
    )

pub returns : goal.returns
returns c =
    let a = c.args in
    let t : ModelTables = model_tables a.h_words.now a.h_coeffs.now a.jumps.now a.rates.now a.t_words.now a.t_numbers.now in
    let k = tested_stands a.m t c.requires.1 in
    rest_puts a.m t a.p a.room a.lanes.now a.sums.now c.requires.0 _ _ _ (near_reals a.m t a.p a.h_index.now a.j_index.now k c.requires.2 c.requires.6 _ _ c.row_lanes-h_row.ensures c.union_rows.ensures (c.put_reals_near-first.ensures t refl refl))
    _ c.in-Some.is c.put_reals_near-first.auto.lanes c.put_reals_near-first.auto.sums
    _ _ _ (near_entries a.m t a.p a.h_index.now a.j_index.now k c.requires.2 c.requires.6 _ _ c.row_lanes-j_row.ensures c.union_rows-2.ensures (c.put_entries_near.ensures t refl refl))
