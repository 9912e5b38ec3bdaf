-- SPDX-FileCopyrightText: 2026 The PPVM Authors
-- SPDX-License-Identifier: Apache-2.0

-- `rules::put_rules` meets its contract: the terms, the jumps, the pairs, or that one of them finds no room. Assumes nothing.
use mathlib.Core.Path.{refl}
use Rattle.model.specs.Stored.{ModelTables}
use Rattle.model.proofs.StandsLaws.{tested_stands}
use Rattle.rules_by_scan.proofs.RuleLaws.{reals_full, reals_room, jumps_full, jumps_room, pairs_puts}
use Rattle.model.specs.Between.{model_tables}
use Rattle.rules_by_scan.proofs.rules.put_rules.Goals as goal

pub put_reals-first-requires : goal.put_reals-first-requires
put_reals-first-requires c =
    let a = c.args in
    let t : ModelTables = model_tables a.h_words.now a.h_coeffs.now a.jumps.now a.rates.now a.t_words.now a.t_numbers.now in
    let k = tested_stands a.m t c.requires.1 in
    (c.requires.0, k.h_words_room, k.h_coeffs_room)

pub returns-in_default : goal.returns-in_default
returns-in_default c =
    let a = c.args in
    let t : ModelTables = model_tables a.h_words.now a.h_coeffs.now a.jumps.now a.rates.now a.t_words.now a.t_numbers.now in
    reals_full a.m t a.p a.room a.lanes.now a.sums.now c.requires.0 _ _ _ (c.put_reals-first.ensures t refl refl) c.in_default.is

pub put_jumps-second-requires : goal.put_jumps-second-requires
put_jumps-second-requires c =
    let a = c.args in
    let t : ModelTables = model_tables a.h_words.now a.h_coeffs.now a.jumps.now a.rates.now a.t_words.now a.t_numbers.now in
    let k = tested_stands a.m t c.requires.1 in (
      reals_room a.m t a.p a.room a.lanes.now a.sums.now c.requires.0 _ _ _ (c.put_reals-first.ensures t refl refl)
          _ c.in-Some.is c.put_reals-first.auto.lanes c.put_reals-first.auto.sums,
      k.jumps_room,
      k.rates_room,
      k.t_words_room,
      k.t_numbers_room,
      k.fits,
    )

pub returns-in_default-second : goal.returns-in_default-second
returns-in_default-second c =
    let a = c.args in
    let t : ModelTables = model_tables a.h_words.now a.h_coeffs.now a.jumps.now a.rates.now a.t_words.now a.t_numbers.now in
    jumps_full a.m t a.p a.room a.lanes.now a.sums.now c.requires.0 _ _ _ (c.put_reals-first.ensures t refl refl)
    _ c.in-Some.is c.put_reals-first.auto.lanes c.put_reals-first.auto.sums
    _ _ _ (c.put_jumps-second.ensures t refl refl) c.in_default-second.is

pub put_pairs-requires : goal.put_pairs-requires
put_pairs-requires c =
    let a = c.args in
    let t : ModelTables = model_tables a.h_words.now a.h_coeffs.now a.jumps.now a.rates.now a.t_words.now a.t_numbers.now in
    let k = tested_stands a.m t c.requires.1 in (
      jumps_room a.m t a.p a.room a.lanes.now a.sums.now c.requires.0 _ _ _ (c.put_reals-first.ensures t refl refl)
          _ c.in-Some.is c.put_reals-first.auto.lanes c.put_reals-first.auto.sums
          _ _ _ (c.put_jumps-second.ensures t refl refl)
          _ c.in-Some-second.is c.put_jumps-second.auto.lanes c.put_jumps-second.auto.sums,
      k.jumps_room,
      k.rates_room,
      k.t_words_room,
      k.t_numbers_room,
      k.fits,
    )

pub returns : goal.returns
returns c =
    let a = c.args in
    let t : ModelTables = model_tables a.h_words.now a.h_coeffs.now a.jumps.now a.rates.now a.t_words.now a.t_numbers.now in
    pairs_puts a.m t a.p a.room a.lanes.now a.sums.now c.requires.0 _ _ _ (c.put_reals-first.ensures t refl refl)
    _ c.in-Some.is c.put_reals-first.auto.lanes c.put_reals-first.auto.sums
    _ _ _ (c.put_jumps-second.ensures t refl refl)
    _ c.in-Some-second.is c.put_jumps-second.auto.lanes c.put_jumps-second.auto.sums
    _ _ _ (c.put_pairs.ensures t refl refl)
