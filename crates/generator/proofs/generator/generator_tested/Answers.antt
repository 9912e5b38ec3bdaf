-- SPDX-FileCopyrightText: 2026 The PPVM Authors
-- SPDX-License-Identifier: Apache-2.0

-- `generator::generator_tested` meets its contract: a word that came before, or what the columns staged, listed and cleared. Assumes nothing.
use mathlib.Core.Path.{sym, ap, ap₂, ◌∙◌}
use mathlib.Core.List.{List, ◌++◌}
use Prim.Native.Nat.{ℕ, min}
use native.Mathlib.Omega.{arith}
use lib.ListN.{drop, replicate}
use lib.Seq.{length-take-le, length_front}
use Rattle.number.specs.Floats.{float0}
use Rattle.word.specs.Flat.{words as words_in}
use Rattle.model.specs.Stored.{ModelTables}
use Rattle.model.specs.Between.{model_tables}
use Rattle.columns.specs.Between.{StageRoom}
use Rattle.generator.specs.Lent.{Work, work_of}
use Rattle.generator.proofs.LentLaws.{slots_asked, repeated, heads_kept, nexts_kept, differ, basis_ready}
use Rattle.generator.proofs.ListingLaws.{all_zero}
use Rattle.generator.proofs.CallLaws.{held_inside, tested_repeated, tested_listed}
use Rattle.generator.proofs.generator.generator_tested.Goals as goal

pub slice_bounds-lay_distinct-end : goal.slice_bounds-lay_distinct-end
slice_bounds-lay_distinct-end c = c.requires.1.nexts_long

pub slice_bounds-lay_distinct-end-2 : goal.slice_bounds-lay_distinct-end-2
slice_bounds-lay_distinct-end-2 c = sym (length-take-le c.args.len c.args.nexts.now c.requires.1.nexts_long)

pub lay_distinct-first-requires : goal.lay_distinct-first-requires
lay_distinct-first-requires c =
    let a = c.args in
    slots_asked a.m.qubits a.len a.basis.now a.heads.now a.nexts.now c.requires.1

pub returns-then-first-len : goal.returns-then-first-len
returns-then-first-len c =
    let a = c.args in
    let t : ModelTables = model_tables a.h_words.now a.h_coeffs.now a.jumps.now a.rates.now a.t_words.now a.t_numbers.now in
    let w : Work = work_of a.h_index.now a.j_index.now a.mask.now a.heads.now a.nexts.now a.work_words.now a.work_sums.now a.stage_rows.now a.stage_columns.now a.stage_values.now in
    tested_repeated a.rows.now a.columns.now a.values.now w a.m t (words_in a.basis.now) _ _ (repeated a.m.qubits a.len a.basis.now a.heads.now a.nexts.now c.requires.1 _ _ _ c.lay_distinct-first.ensures c.if-first-len.true)
    (ap₂ (λ (h n : List ℕ). work_of a.h_index.now a.j_index.now a.mask.now h n a.work_words.now a.work_sums.now a.stage_rows.now a.stage_columns.now a.stage_values.now) (heads_kept a.m.qubits a.len a.basis.now a.heads.now a.nexts.now c.requires.1 _ _ _ c.lay_distinct-first.ensures c.if-first-len.true) (nexts_kept a.m.qubits a.len a.basis.now a.heads.now a.nexts.now c.requires.1 _ _ _ c.lay_distinct-first.ensures c.if-first-len.true))

pub slice_bounds-gather-end : goal.slice_bounds-gather-end
slice_bounds-gather-end c = let n = length_front c.args.nexts.now c.lay_distinct-first.new.nexts c.args.len c.lay_distinct-first.auto.nexts in omega (arith, n, c.requires.1.nexts_long)

pub slice_bounds-gather-end-2 : goal.slice_bounds-gather-end-2
slice_bounds-gather-end-2 c =
    let n = length_front c.args.nexts.now c.lay_distinct-first.new.nexts c.args.len c.lay_distinct-first.auto.nexts in
    sym (length-take-le c.args.len (c.lay_distinct-first.new.nexts ++ drop c.args.len c.args.nexts.now) (omega (arith, n, c.requires.1.nexts_long)))

pub gather-staged-requires : goal.gather-staged-requires
gather-staged-requires c =
    let a = c.args in
    let p = c.places_of-stage.ensures in
    let e = c.smaller-places.ensures in
    let room : StageRoom c.smaller-places.result a.stage_rows.now a.stage_columns.now a.stage_values.now = record { rows_long = omega (arith, e, p); columns_long = omega (arith, e, p); values_long = omega (arith, e, p) } in
    (c.requires.0, basis_ready a.m.qubits a.len a.basis.now a.heads.now a.nexts.now c.requires.1 _ _ _ c.lay_distinct-first.ensures c.if-first-len.false, room)

pub list_staged-listed-requires : goal.list_staged-listed-requires
list_staged-listed-requires c =
    let a = c.args in
    let t : ModelTables = model_tables a.h_words.now a.h_coeffs.now a.jumps.now a.rates.now a.t_words.now a.t_numbers.now in
    let p = c.places_of-stage.ensures in
    let q = c.places_of-out.ensures in
    let e = c.smaller-places.ensures in
    let g = c.gather-staged in
    let inside : StageRoom c.smaller-places.result g.new.stage_rows g.new.stage_columns g.new.stage_values = record { rows_long = omega (arith, e, p, g.auto.stage_rows); columns_long = omega (arith, e, p, g.auto.stage_columns); values_long = omega (arith, e, p, g.auto.stage_values) } in
    let out : StageRoom c.smaller-places.result a.rows.now a.columns.now a.values.now = record { rows_long = omega (arith, e, q); columns_long = omega (arith, e, q); values_long = omega (arith, e, q) } in
    (held_inside a.m t (words_in a.basis.now) _ _ _ _ _ _ g.ensures.0 _ _ _ inside, held_inside a.m t (words_in a.basis.now) _ _ _ _ _ _ g.ensures.0 _ _ _ out)

pub returns : goal.returns
returns c =
    let a = c.args in
    let t : ModelTables = model_tables a.h_words.now a.h_coeffs.now a.jumps.now a.rates.now a.t_words.now a.t_numbers.now in
    let w : Work = work_of a.h_index.now a.j_index.now a.mask.now a.heads.now a.nexts.now a.work_words.now a.work_sums.now a.stage_rows.now a.stage_columns.now a.stage_values.now in
    let g = c.gather-staged.ensures in
    tested_listed a.rows.now a.columns.now a.values.now w a.m t (words_in a.basis.now) _ _ _ _ _ _ _ (differ a.m.qubits a.len a.basis.now a.heads.now a.nexts.now c.requires.1 _ _ _ c.lay_distinct-first.ensures c.if-first-len.false) (c.smaller-places.ensures ∙ ap₂ min c.places_of-stage.ensures c.places_of-out.ensures) g.0 c.list_staged-listed.ensures
    (all_zero w g.1 g.2 g.3
    (c.clear_lanes.ensures ∙ ap (λ (n : ℕ). replicate n 0) c.lay_distinct-first.auto.heads)
    (c.clear_lanes-2.ensures ∙ ap (λ (n : ℕ). replicate n 0) (length_front c.args.nexts.now c.lay_distinct-first.new.nexts c.args.len c.lay_distinct-first.auto.nexts))
    g.4 g.5
    (c.clear_entries.ensures.0 ∙ ap (λ (n : ℕ). replicate n 0) c.gather-staged.auto.stage_rows)
    (c.clear_entries.ensures.1 ∙ ap (λ (n : ℕ). replicate n 0) c.gather-staged.auto.stage_columns)
    (c.clear_entries.ensures.2 ∙ ap (λ (n : ℕ). replicate n float0) c.gather-staged.auto.stage_values))
