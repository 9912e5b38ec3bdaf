-- SPDX-FileCopyrightText: 2026 The PPVM Authors
-- SPDX-License-Identifier: Apache-2.0

-- `csr::csr_tested` meets its contract: a word that came before, or what the columns staged, by rows and cleared. Assumes nothing.
use mathlib.Core.Path.{sym, ap, ap₂, ◌∙◌}
use mathlib.Core.List.{List, ◌++◌}
use Prim.Native.Nat.{ℕ, min}
use native.Mathlib.Omega.{arith}
use lib.ListN.{drop, replicate}
use lib.Seq.{length-take-le, length_front}
use Rattle.number.specs.Floats.{float0}
use Rattle.word.specs.Flat.{words as words_in}
use Rattle.model.specs.Stored.{ModelTables}
use Rattle.model.specs.Between.{model_tables}
use Rattle.columns.specs.Between.{StageRoom}
use Rattle.generator.specs.Lent.{Work, work_of}
use Rattle.generator.proofs.LentLaws.{basis_size, slots_asked, repeated, heads_kept, nexts_kept, differ, basis_ready}
use Rattle.generator.proofs.ListingLaws.{all_zero}
use Rattle.generator.proofs.CallLaws.{held_rows, csr_repeated, csr_listed}
use Rattle.generator.proofs.csr.csr_tested.Goals as goal

pub slice_bounds-lay_distinct-end : goal.slice_bounds-lay_distinct-end
slice_bounds-lay_distinct-end c = c.requires.1.nexts_long

pub slice_bounds-lay_distinct-end-2 : goal.slice_bounds-lay_distinct-end-2
slice_bounds-lay_distinct-end-2 c = sym (length-take-le c.args.len c.args.nexts.now c.requires.1.nexts_long)

pub lay_distinct-first-requires : goal.lay_distinct-first-requires
lay_distinct-first-requires c =
    let a = c.args in
    slots_asked a.m.qubits a.len a.basis.now a.heads.now a.nexts.now c.requires.1

pub returns-then-first-len : goal.returns-then-first-len
returns-then-first-len c =
    let a = c.args in
    let t : ModelTables = model_tables a.h_words.now a.h_coeffs.now a.jumps.now a.rates.now a.t_words.now a.t_numbers.now in
    let w : Work = work_of a.h_index.now a.j_index.now a.mask.now a.heads.now a.nexts.now a.work_words.now a.work_sums.now a.stage_rows.now a.stage_columns.now a.stage_values.now in
    csr_repeated a.offsets.now a.columns.now a.values.now w a.m t a.len (words_in a.basis.now) _ _ (repeated a.m.qubits a.len a.basis.now a.heads.now a.nexts.now c.requires.1 _ _ _ c.lay_distinct-first.ensures c.if-first-len.true)
    (ap₂ (λ (h n : List ℕ). work_of a.h_index.now a.j_index.now a.mask.now h n a.work_words.now a.work_sums.now a.stage_rows.now a.stage_columns.now a.stage_values.now) (heads_kept a.m.qubits a.len a.basis.now a.heads.now a.nexts.now c.requires.1 _ _ _ c.lay_distinct-first.ensures c.if-first-len.true) (nexts_kept a.m.qubits a.len a.basis.now a.heads.now a.nexts.now c.requires.1 _ _ _ c.lay_distinct-first.ensures c.if-first-len.true))

pub slice_bounds-gather-end : goal.slice_bounds-gather-end
slice_bounds-gather-end c = let n = length_front c.args.nexts.now c.lay_distinct-first.new.nexts c.args.len c.lay_distinct-first.auto.nexts in omega (arith, n, c.requires.1.nexts_long)

pub slice_bounds-gather-end-2 : goal.slice_bounds-gather-end-2
slice_bounds-gather-end-2 c =
    let n = length_front c.args.nexts.now c.lay_distinct-first.new.nexts c.args.len c.lay_distinct-first.auto.nexts in
    sym (length-take-le c.args.len (c.lay_distinct-first.new.nexts ++ drop c.args.len c.args.nexts.now) (omega (arith, n, c.requires.1.nexts_long)))

pub gather-staged-requires : goal.gather-staged-requires
gather-staged-requires c =
    let a = c.args in
    let p = c.places_of-stage.ensures in
    let e = c.smaller-places.ensures in
    let room : StageRoom c.smaller-places.result a.stage_rows.now a.stage_columns.now a.stage_values.now = record { rows_long = omega (arith, e, p); columns_long = omega (arith, e, p); values_long = omega (arith, e, p) } in
    (c.requires.0, basis_ready a.m.qubits a.len a.basis.now a.heads.now a.nexts.now c.requires.1 _ _ _ c.lay_distinct-first.ensures c.if-first-len.false, room)

pub list_rows-listed-requires : goal.list_rows-listed-requires
list_rows-listed-requires c =
    let a = c.args in
    let t : ModelTables = model_tables a.h_words.now a.h_coeffs.now a.jumps.now a.rates.now a.t_words.now a.t_numbers.now in
    let p = c.places_of-stage.ensures in
    let q = c.smaller-out.ensures in
    let e = c.smaller-places.ensures in
    let g = c.gather-staged in
    let inside : StageRoom c.smaller-places.result g.new.stage_rows g.new.stage_columns g.new.stage_values = record { rows_long = omega (arith, e, p, g.auto.stage_rows); columns_long = omega (arith, e, p, g.auto.stage_columns); values_long = omega (arith, e, p, g.auto.stage_values) } in
    (held_rows a.m t (words_in a.basis.now) _ _ _ _ _ _ g.ensures.0 a.len _ _ (basis_size a.m.qubits a.len a.basis.now a.heads.now a.nexts.now c.requires.1) inside (omega (arith, e, q)) (omega (arith, e, q)), omega (arith, c.lay_distinct-first.auto.heads, c.requires.1.heads_long), c.requires.2)

pub returns : goal.returns
returns c =
    let a = c.args in
    let t : ModelTables = model_tables a.h_words.now a.h_coeffs.now a.jumps.now a.rates.now a.t_words.now a.t_numbers.now in
    let w : Work = work_of a.h_index.now a.j_index.now a.mask.now a.heads.now a.nexts.now a.work_words.now a.work_sums.now a.stage_rows.now a.stage_columns.now a.stage_values.now in
    let g = c.gather-staged.ensures in
    csr_listed a.offsets.now a.columns.now a.values.now w a.m t a.len (words_in a.basis.now) _ _ _ _ _ _ _ (differ a.m.qubits a.len a.basis.now a.heads.now a.nexts.now c.requires.1 _ _ _ c.lay_distinct-first.ensures c.if-first-len.false) (c.smaller-places.ensures ∙ ap₂ min c.places_of-stage.ensures c.smaller-out.ensures) g.0 c.list_rows-listed.ensures.0
    (all_zero w g.1 g.2 g.3
    (c.list_rows-listed.ensures.1 ∙ ap (λ (n : ℕ). replicate n 0) c.lay_distinct-first.auto.heads)
    (c.clear_lanes.ensures ∙ ap (λ (n : ℕ). replicate n 0) (length_front c.args.nexts.now c.lay_distinct-first.new.nexts c.args.len c.lay_distinct-first.auto.nexts))
    g.4 g.5
    (c.clear_entries.ensures.0 ∙ ap (λ (n : ℕ). replicate n 0) c.gather-staged.auto.stage_rows)
    (c.clear_entries.ensures.1 ∙ ap (λ (n : ℕ). replicate n 0) c.gather-staged.auto.stage_columns)
    (c.clear_entries.ensures.2 ∙ ap (λ (n : ℕ). replicate n float0) c.gather-staged.auto.stage_values))
