-- SPDX-FileCopyrightText: 2026 The PPVM Authors
-- SPDX-License-Identifier: Apache-2.0

-- `spec::compile_given` meets its contract. Assumes nothing.
use mathlib.Core.Path.{sym, ap, ◌∙◌}
use lib.ListN.{length, replicate}
use mir.Val.{Fits}
use mir.Syntax.{w64}
use Rattle.number.specs.Floats.{float0}
use Rattle.model.specs.Stored.{ModelTables}
use Rattle.model_build.specs.Built.{Input}
use Prim.Native.Nat.{ℕ}
use Rattle.model_build.proofs.BuildLaws.{Accepts, build_accepted}
use Rattle.model_build.proofs.CheckLaws.{own_hold}
use Rattle.model_build.proofs.JumpsLaws.{work_same}
use Rattle.model_build.proofs.FinishLaws.{own_reals, own_jumps, jumps_room, built_full, built_model}
use borrow.Author.Rules.{rules}
use native.Mathlib.Omega.{arith}
use Rattle.model_build.proofs.spec.compile_given.Goals as goal
use Rattle.model_build.proofs.spec.compile_given.Goals.{Start}

abbrev input : Start → Input
input s =
    let a = s.args in
    record { texts = a.texts.now; lengths = a.lengths.now; h_numbers = a.h_numbers.now; rates = a.given.now; counts = a.counts.now; numbers = a.numbers.now }

abbrev tables : Start → ModelTables
tables s =
    let a = s.args in
    record { h_words = a.h_words.now; h_coeffs = a.h_coeffs.now; jumps = a.jumps.now; rates = a.rates.now; t_words = a.t_words.now; t_numbers = a.t_numbers.now }

accepts : (s : Start) → Accepts s.args.n_qubits (input s) (tables s) s.args.work_words.now s.args.work_numbers.now
accepts s = build_accepted s.args.n_qubits (input s) (tables s) s.args.work_words.now s.args.work_numbers.now s.requires

pub slice_bounds-own-end : goal.slice_bounds-own-end
slice_bounds-own-end c =
    let s = (goal.at.slice_bounds-own-end c).Start in
    omega (arith, (accepts s).lengths.texts_each)

pub slice_bounds-rest-count : goal.slice_bounds-rest-count
slice_bounds-rest-count c =
    let s = (goal.at.slice_bounds-rest-count c).Start in
    omega (arith, (accepts s).lengths.texts_each)

pub slice_bounds-rest-start : goal.slice_bounds-rest-start
slice_bounds-rest-start c =
    let s = (goal.at.slice_bounds-rest-start c).Start in
    omega (arith, (accepts s).lengths.texts_each)

pub sum_of-at-requires : goal.sum_of-at-requires
sum_of-at-requires c =
    let s = (goal.at.sum_of-at-requires c).Start in
    let f : Fits w64 (length c.args.texts.now) = search (c.well_formed, rules) in
    omega (arith, f, own_hold (input s) (tables s) c.args.work_words.now c.args.work_numbers.now (accepts s).lengths)

pub slice_bounds-after-count : goal.slice_bounds-after-count
slice_bounds-after-count c =
    let s = (goal.at.slice_bounds-after-count c).Start in
    omega (arith, c.sum_of-at.ensures, own_hold (input s) (tables s) c.args.work_words.now c.args.work_numbers.now (accepts s).lengths)

pub slice_bounds-after-start : goal.slice_bounds-after-start
slice_bounds-after-start c =
    let s = (goal.at.slice_bounds-after-start c).Start in
    omega (arith, c.sum_of-at.ensures, own_hold (input s) (tables s) c.args.work_words.now c.args.work_numbers.now (accepts s).lengths)

pub smaller-places-requires : goal.smaller-places-requires
smaller-places-requires c = tt

pub jumps_fit-requires : goal.jumps_fit-requires
jumps_fit-requires c =
    let s = (goal.at.jumps_fit-requires c).Start in
    let sum = c.sum_of-at in
    (own_jumps c.args.n_qubits (input s) (tables s) c.args.work_words.now c.args.work_numbers.now (accepts s) sum.result sum.ensures, (accepts s).work)

pub clear_lanes-requires : goal.clear_lanes-requires
clear_lanes-requires c = tt

pub clear_numbers-requires : goal.clear_numbers-requires
clear_numbers-requires c = tt

pub returns-then-not-jumps_fit : goal.returns-then-not-jumps_fit
returns-then-not-jumps_fit c =
    let s = (goal.at.returns-then-not-jumps_fit c).Start in
    let sum = c.sum_of-at in
    let places = c.smaller-places in
    let fit = c.jumps_fit in
    let k = fit.auto in
    built_full c.args.n_qubits (input s) (tables s) c.args.work_words.now c.args.work_numbers.now (accepts s) sum.result sum.ensures places.result places.ensures fit.result fit.ensures _ _ (c.clear_lanes.ensures ∙ ap (λ (m : ℕ). replicate m 0) k.words) (c.clear_numbers.ensures ∙ ap (λ (m : ℕ). replicate m float0) k.sums)
    c.if-not-jumps_fit.true-raw

pub store_hamiltonian-requires : goal.store_hamiltonian-requires
store_hamiltonian-requires c =
    let s = (goal.at.store_hamiltonian-requires c).Start in
    own_reals c.args.n_qubits (input s) (tables s) c.args.work_words.now c.args.work_numbers.now (accepts s)

pub store_jumps-terms-requires : goal.store_jumps-terms-requires
store_jumps-terms-requires c =
    let s = (goal.at.store_jumps-terms-requires c).Start in
    let sum = c.sum_of-at in
    let places = c.smaller-places in
    let fit = c.jumps_fit in
    let k = fit.auto in (
      own_jumps c.args.n_qubits (input s) (tables s) c.args.work_words.now c.args.work_numbers.now (accepts s) sum.result sum.ensures,
      sym (accepts s).lengths.counts_each,
      work_same c.args.counts.now c.args.work_words.now _ c.args.work_numbers.now _ (accepts s).work k.words k.sums,
      jumps_room c.args.n_qubits (input s) (tables s) c.args.work_words.now c.args.work_numbers.now (accepts s) sum.result sum.ensures places.result places.ensures fit.result fit.ensures c.if-not-jumps_fit.false-raw,
    )

pub clear_lanes-requires-2 : goal.clear_lanes-requires-2
clear_lanes-requires-2 c = tt

pub clear_numbers-requires-2 : goal.clear_numbers-requires-2
clear_numbers-requires-2 c = tt

pub returns : goal.returns
returns c =
    let s = (goal.at.returns c).Start in
    let sum = c.sum_of-at in
    let places = c.smaller-places in
    let fit = c.jumps_fit in
    let k = fit.auto in
    let stores = c.store_jumps-terms in
    let j = stores.auto in
    built_model c.args.n_qubits (input s) (tables s) c.args.work_words.now c.args.work_numbers.now (accepts s) sum.result sum.ensures places.result places.ensures fit.result fit.ensures _ _ (c.clear_lanes-2.ensures ∙ ap (λ (m : ℕ). replicate m 0) (j.words ∙ k.words)) (c.clear_numbers-2.ensures ∙ ap (λ (m : ℕ). replicate m float0) (j.sums ∙ k.sums))
    c.if-not-jumps_fit.false-raw _ _ _ _ _ _ stores.result c.store_hamiltonian.ensures stores.ensures
