-- SPDX-FileCopyrightText: 2026 The PPVM Authors
-- SPDX-License-Identifier: Apache-2.0

-- `kossakowski::compile_matrix` meets its contract. Assumes nothing.
use mathlib.Core.Path.{ap, ◌∙◌}
use Prim.Native.Nat.{ℕ, ◌<◌}
use native.Mathlib.Omega.{arith}
use lib.ListN.{length, replicate}
use mir.Val.{Fits}
use mir.Syntax.{w64}
use borrow.Author.Rules.{rules}
use Rattle.number.specs.Floats.{float0}
use Rattle.model.specs.Stored.{ModelTables}
use Rattle.k_matrix.specs.Added.{Input, operators}
use Rattle.kossakowski.proofs.MatrixAccepted.{Accepts, matrix_accepted}
use Rattle.kossakowski.proofs.CompiledLaws.{terms_inside, own_few, read_fits, read_room, square, work_room, store_room, pairs_room, compiled_none, compiled_full, compiled_model}
use Rattle.kossakowski.proofs.kossakowski.compile_matrix.Goals as goal
use Rattle.kossakowski.proofs.kossakowski.compile_matrix.Goals.{Else-counts-eq0, Start}

abbrev input : Start → Input
input s = let a = s.args in record { texts = a.texts.now; lengths = a.lengths.now; counts = a.counts.now; numbers = a.numbers.now; k = a.k.now }

abbrev tables : Start → ModelTables
tables s =
    let a = s.args in
    record { h_words = a.h_words.now; h_coeffs = a.h_coeffs.now; jumps = a.jumps.now; rates = a.rates.now; t_words = a.t_words.now; t_numbers = a.t_numbers.now }

accepts : (s : Start) → Accepts s.args.m (input s) (tables s) s.args.work_words.now s.args.work_numbers.now
accepts s = matrix_accepted s.args.m (input s) (tables s) s.args.work_words.now s.args.work_numbers.now s.requires

-- past the first branch there is an operator
abbrev start : Else-counts-eq0 → Start
start e = (goal.at.Else-counts-eq0 e).Start

some : (e : Else-counts-eq0) → 0 < operators (input (start e))
some e = omega (arith, e.if-counts-eq0.false)

pub clear_lanes-requires : goal.clear_lanes-requires
clear_lanes-requires c = tt

pub clear_numbers-requires : goal.clear_numbers-requires
clear_numbers-requires c = tt

pub returns-then-counts-eq0 : goal.returns-then-counts-eq0
returns-then-counts-eq0 c =
    let s = (goal.at.returns-then-counts-eq0 c).Start in
    compiled_none c.args.m (input s) (tables s) c.args.work_words.now c.args.work_numbers.now (accepts s) c.if-counts-eq0.true _ _ c.clear_lanes.ensures c.clear_numbers.ensures

pub largest_square-largest-requires : goal.largest_square-largest-requires
largest_square-largest-requires c = tt

pub read_operator-requires : goal.read_operator-requires
read_operator-requires c =
    let e = (goal.at.read_operator-requires c).Else-counts-eq0 in
    let s = start e in
    (read_fits s.args.m (input s) (tables s) s.args.work_words.now s.args.work_numbers.now (accepts s), read_room s.args.m (input s) (tables s) s.args.work_words.now s.args.work_numbers.now (accepts s) (some e))

pub count_pairs-pairs-requires : goal.count_pairs-pairs-requires
count_pairs-pairs-requires c =
    let s = (goal.at.count_pairs-pairs-requires c).Start in
    square c.args.m (input s) (tables s) c.args.work_words.now c.args.work_numbers.now (accepts s) _ c.largest_square-largest.ensures

pub count_terms-kept-requires : goal.count_terms-kept-requires
count_terms-kept-requires c =
    let e = (goal.at.count_terms-kept-requires c).Else-counts-eq0 in
    let s = start e in
    (square s.args.m (input s) (tables s) s.args.work_words.now s.args.work_numbers.now (accepts s) _ c.largest_square-largest.ensures, work_room s.args.m (input s) (tables s) s.args.work_words.now s.args.work_numbers.now (accepts s) (some e) _ _ c.read_operator.auto.words c.read_operator.auto.sums)

pub overflow_add-at : goal.overflow_add-at
overflow_add-at c =
    let s = (goal.at.overflow_add-at c).Start in
    let f : Fits w64 (length c.args.t_words.now) = search (c.well_formed.1.1.1.1.1.1.1.1.1.1.0, rules) in
    omega (arith, f, (terms_inside c.args.m (tables s) (accepts s).modelled).0, own_few c.args.m (input s) (tables s) c.args.work_words.now c.args.work_numbers.now (accepts s))

pub overflow_add-terms : goal.overflow_add-terms
overflow_add-terms c =
    let s = (goal.at.overflow_add-terms c).Start in
    let f : Fits w64 (length c.args.t_words.now) = search (c.well_formed.1.1.1.1.1.1.1.1.1.1.0, rules) in
    omega (arith, f, (terms_inside c.args.m (tables s) (accepts s).modelled).0, own_few c.args.m (input s) (tables s) c.args.work_words.now c.args.work_numbers.now (accepts s), c.count_terms-kept.ensures.1)

pub smaller-places-requires : goal.smaller-places-requires
smaller-places-requires c = tt

pub clear_lanes-requires-then-places-terms : goal.clear_lanes-requires-then-places-terms
clear_lanes-requires-then-places-terms c = tt

pub clear_numbers-requires-then-places-terms : goal.clear_numbers-requires-then-places-terms
clear_numbers-requires-then-places-terms c = tt

pub returns-then-places-terms : goal.returns-then-places-terms
returns-then-places-terms c =
    let s = (goal.at.returns-then-places-terms c).Start in
    compiled_full c.args.m (input s) (tables s) c.args.work_words.now c.args.work_numbers.now (accepts s) _ _ c.read_operator.ensures c.count_terms-kept.result c.count_terms-kept.ensures.0 _ _ c.count_terms-kept.ensures.2 c.smaller-places.result c.smaller-places.ensures _ _
    (c.clear_lanes-then-places-terms.ensures ∙ ap (λ (m : ℕ). replicate m 0) (c.count_terms-kept.auto.words ∙ c.read_operator.auto.words)) (c.clear_numbers-then-places-terms.ensures ∙ ap (λ (m : ℕ). replicate m float0) (c.count_terms-kept.auto.sums ∙ c.read_operator.auto.sums))
    c.if-places-terms.true

pub overflow_add-own : goal.overflow_add-own
overflow_add-own c =
    let s = (goal.at.overflow_add-own c).Start in
    omega (arith, own_few c.args.m (input s) (tables s) c.args.work_words.now c.args.work_numbers.now (accepts s))

pub store_terms-requires : goal.store_terms-requires
store_terms-requires c =
    let e = (goal.at.store_terms-requires c).Else-counts-eq0 in
    let s = start e in
    store_room s.args.m (input s) (tables s) s.args.work_words.now s.args.work_numbers.now (accepts s) _ _ c.read_operator.ensures c.count_terms-kept.result c.count_terms-kept.ensures.0 _ _ c.count_terms-kept.ensures.2 c.smaller-places.result c.smaller-places.ensures (some e) c.if-places-terms.false (c.count_terms-kept.auto.words ∙ c.read_operator.auto.words) (c.count_terms-kept.auto.sums ∙ c.read_operator.auto.sums)

pub store_pairs-requires : goal.store_pairs-requires
store_pairs-requires c =
    let e = (goal.at.store_pairs-requires c).Else-counts-eq0 in
    let s = start e in
    let f : Fits w64 (length s.args.t_words.now) = search (c.well_formed, rules) in
    (square s.args.m (input s) (tables s) s.args.work_words.now s.args.work_numbers.now (accepts s) _ c.largest_square-largest.ensures, work_room s.args.m (input s) (tables s) s.args.work_words.now s.args.work_numbers.now (accepts s) (some e) _ _ (c.count_terms-kept.auto.words ∙ c.read_operator.auto.words) (c.count_terms-kept.auto.sums ∙ c.read_operator.auto.sums), omega (arith, f, (terms_inside s.args.m (tables s) (accepts s).modelled).0, own_few s.args.m (input s) (tables s) s.args.work_words.now s.args.work_numbers.now (accepts s), (accepts s).lengths.terms_counted), pairs_room s.args.m (input s) (tables s) s.args.work_words.now s.args.work_numbers.now (accepts s) _ _ c.read_operator.ensures c.count_terms-kept.result c.count_terms-kept.ensures.0 _ _ c.count_terms-kept.ensures.2 c.smaller-places.result c.smaller-places.ensures c.if-places-terms.false _ _ c.store_terms.auto.t_words c.store_terms.auto.t_numbers)

pub clear_lanes-requires-2 : goal.clear_lanes-requires-2
clear_lanes-requires-2 c = tt

pub clear_numbers-requires-2 : goal.clear_numbers-requires-2
clear_numbers-requires-2 c = tt

pub overflow_add-result : goal.overflow_add-result
overflow_add-result c =
    let s = (goal.at.overflow_add-result c).Start in
    omega (arith, (accepts s).entries_few, c.count_pairs-pairs.ensures.0)

pub returns : goal.returns
returns c =
    let s = (goal.at.returns c).Start in
    compiled_model c.args.m (input s) (tables s) c.args.work_words.now c.args.work_numbers.now (accepts s) _ _ c.read_operator.ensures c.count_terms-kept.result c.count_terms-kept.ensures.0 _ _ c.count_terms-kept.ensures.2 c.smaller-places.result c.smaller-places.ensures _ _
    (c.clear_lanes-2.ensures ∙ ap (λ (m : ℕ). replicate m 0) (c.store_pairs.auto.words ∙ c.count_terms-kept.auto.words ∙ c.read_operator.auto.words)) (c.clear_numbers-2.ensures ∙ ap (λ (m : ℕ). replicate m float0) (c.store_pairs.auto.sums ∙ c.count_terms-kept.auto.sums ∙ c.read_operator.auto.sums))
    c.if-places-terms.false _ _ _ _ _ _ c.store_terms.ensures c.store_pairs.ensures c.count_pairs-pairs.result c.count_pairs-pairs.ensures.0
