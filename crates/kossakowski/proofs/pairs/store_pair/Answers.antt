-- SPDX-FileCopyrightText: 2026 The PPVM Authors
-- SPDX-License-Identifier: Apache-2.0

-- `pairs::store_pair` meets its contract. Assumes nothing.
use mathlib.Core.Path.{refl}
use Rattle.number.specs.Floats.{cx}
use Rattle.kossakowski.proofs.PairLaws.{many_few, work_stays, pair_factors, pair_keeps, pair_stored}
use borrow.Author.Rules.{rules}
use native.Mathlib.Omega.{arith}
use Rattle.kossakowski.proofs.pairs.store_pair.Goals as goal

pub overflow_mul-middle : goal.overflow_mul-middle
overflow_mul-middle c = let a = c.args in omega (arith, many_few a.left a.right a.words.now a.sums.now c.requires.0)

pub overflow_add-middle : goal.overflow_add-middle
overflow_add-middle c =
    let a = c.args in
    let r = pair_factors a.left a.right a.words.now a.sums.now c.requires.0 (cx a.k) a.own_left a.own_right a.j a.at a.jumps.now a.rates.now a.t_words.now a.t_numbers.now c.requires.1 in
    omega (arith, r.lanes_room, c.well_formed.1.1.1.1.1.1.1.1.1.1.1.0.0)

pub store_factors-requires : goal.store_factors-requires
store_factors-requires c =
    let a = c.args in
    pair_factors a.left a.right a.words.now a.sums.now c.requires.0 (cx a.k) a.own_left a.own_right a.j a.at a.jumps.now a.rates.now a.t_words.now a.t_numbers.now c.requires.1

pub precompute_adag_b-count-requires : goal.precompute_adag_b-count-requires
precompute_adag_b-count-requires c = c.requires.0

pub store_scaled-last-requires : goal.store_scaled-last-requires
store_scaled-last-requires c =
    let a = c.args in
    let s = c.store_factors in
    let p = c.precompute_adag_b-count in
    pair_keeps a.left a.right a.words.now a.sums.now c.requires.0 (cx a.k) a.own_left a.own_right a.j a.at a.jumps.now a.rates.now a.t_words.now a.t_numbers.now c.requires.1
    _ _ s.ensures p.result _ _ p.ensures p.auto.words p.auto.numbers s.auto.t_words s.auto.t_numbers

pub offset_bounds-rates-j : goal.offset_bounds-rates-j
offset_bounds-rates-j c = search (c.well_formed, c.requires.1.rate_room, rules)

pub bounds-rates-j : goal.bounds-rates-j
bounds-rates-j c = c.requires.1.rate_room

pub lay_entry-requires : goal.lay_entry-requires
lay_entry-requires c = c.requires.1.entry_room

pub returns : goal.returns
returns c =
    let a = c.args in
    let s = c.store_factors in
    let p = c.precompute_adag_b-count in
    let k = c.store_scaled-last in (
      pair_stored a.left a.right a.words.now a.sums.now c.requires.0 (cx a.k) a.own_left a.own_right a.j a.at a.jumps.now a.rates.now a.t_words.now a.t_numbers.now c.requires.1
          _ _ s.ensures p.result _ _ p.ensures _ _ k.result _ _ k.ensures c.lay_entry.ensures refl,
      work_stays a.left a.right a.words.now a.sums.now c.requires.0 p.result _ _ p.ensures,
    )
