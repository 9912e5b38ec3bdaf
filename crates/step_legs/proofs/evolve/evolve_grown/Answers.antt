-- SPDX-FileCopyrightText: 2026 The PPVM Authors
-- SPDX-License-Identifier: Apache-2.0

-- `evolve::evolve_grown` meets its contract: the slots, the matrix, then the numbers over it. Assumes nothing.
use mathlib.Core.Path.{sym, ap, ◌∙◌}
use mathlib.Core.List.{◌++◌}
use Prim.Native.Nat.{ℕ, ◌*◌, ◌≤◌}
use native.Mathlib.Omega.{arith}
use lib.ListN.{length, take, drop, replicate}
use lib.Seq.{length-take-le, length_front}
use Rattle.number.specs.Floats.{float0}
use Rattle.word.specs.Flat.{words as words_in, word_lanes}
use Rattle.model.specs.Stored.{ModelTables}
use Rattle.model.specs.Between.{model_tables}
use Rattle.generator.specs.Lent as Generator
use Rattle.taylor.specs.Evolves as Taylor
use Rattle.evolution.specs.Lent.{Work, work_of}
use Rattle.evolution.proofs.MatrixLaws.{rows_ready, course_is}
use Rattle.step_legs.proofs.EvolveLaws.{lanes_fit, slots_lent, model_given, basis_is, basis_size, slots_given, starts_given, numbers_given, over_alike, evolves_plain}
use borrow.Author.Rules.{rules}
use Rattle.step_legs.proofs.evolve.evolve_grown.Goals as goal

pub overflow_mul-basis : goal.overflow_mul-basis
overflow_mul-basis c =
    let a = c.args in
    let pre = c.requires in
    let t : ModelTables = model_tables a.h_words.now a.h_coeffs.now a.jumps.now a.rates.now a.t_words.now a.t_numbers.now in
    let h : word_lanes * a.len ≤ length a.grown_words.now = omega (arith, lanes_fit a.m t pre.tested.0 a.places a.len a.h_index.now a.j_index.now a.mask.now a.heads.now a.nexts.now a.place_order.now a.grown_words.now a.cand_sums.now a.list_values.now a.work_sums.now a.start.now a.evolved.now pre.long pre.good_words.0 pre.good_words.1 pre.good_words.2) in
    search (h, c.well_formed.1.1.1.1.1.1.1.1.1.1.1.0, rules)

pub slice_bounds-basis-end : goal.slice_bounds-basis-end
slice_bounds-basis-end c =
    let a = c.args in
    let pre = c.requires in
    let t : ModelTables = model_tables a.h_words.now a.h_coeffs.now a.jumps.now a.rates.now a.t_words.now a.t_numbers.now in
    sym (length-take-le (a.len * word_lanes) a.grown_words.now (lanes_fit a.m t pre.tested.0 a.places a.len a.h_index.now a.j_index.now a.mask.now a.heads.now a.nexts.now a.place_order.now a.grown_words.now a.cand_sums.now a.list_values.now a.work_sums.now a.start.now a.evolved.now pre.long pre.good_words.0 pre.good_words.1 pre.good_words.2))

pub slice_bounds-lay_slots-end : goal.slice_bounds-lay_slots-end
slice_bounds-lay_slots-end c =
    let pre = c.requires in
    omega (arith, pre.long.nexts_long, pre.good_words.2)

pub slice_bounds-lay_slots-end-2 : goal.slice_bounds-lay_slots-end-2
slice_bounds-lay_slots-end-2 c =
    let a = c.args in
    let pre = c.requires in
    sym (length-take-le a.len a.nexts.now (omega (arith, pre.long.nexts_long, pre.good_words.2)))

pub lay_slots-requires : goal.lay_slots-requires
lay_slots-requires c =
    let a = c.args in
    let pre = c.requires in
    let t : ModelTables = model_tables a.h_words.now a.h_coeffs.now a.jumps.now a.rates.now a.t_words.now a.t_numbers.now in
    slots_lent a.m t pre.tested.0 a.places a.len a.h_index.now a.j_index.now a.mask.now a.heads.now a.nexts.now a.place_order.now a.grown_words.now a.cand_sums.now a.list_values.now a.work_sums.now a.start.now a.evolved.now pre.long pre.good_words.0 pre.good_words.1 pre.good_words.2

pub build_matrix-built-requires : goal.build_matrix-built-requires
build_matrix-built-requires c =
    let a = c.args in
    let pre = c.requires in
    let t : ModelTables = model_tables a.h_words.now a.h_coeffs.now a.jumps.now a.rates.now a.t_words.now a.t_numbers.now in
    let l = c.lay_slots in
    (model_given a.m t pre.tested.0 a.places a.len a.h_index.now a.j_index.now a.mask.now a.heads.now a.nexts.now a.place_order.now a.grown_words.now a.cand_sums.now a.list_values.now a.work_sums.now a.start.now a.evolved.now pre.long pre.good_words.0 pre.good_words.1 pre.good_words.2, slots_given a.m t pre.tested.0 a.places a.len a.h_index.now a.j_index.now a.mask.now a.heads.now a.nexts.now a.place_order.now a.grown_words.now a.cand_sums.now a.list_values.now a.work_sums.now a.start.now a.evolved.now pre.long pre.good_words.0 pre.good_words.1 pre.good_words.2 l.new.heads l.new.nexts l.auto.heads l.auto.nexts l.ensures, starts_given a.m t pre.tested.0 a.places a.len a.h_index.now a.j_index.now a.mask.now a.heads.now a.nexts.now a.place_order.now a.grown_words.now a.cand_sums.now a.list_values.now a.work_sums.now a.start.now a.evolved.now pre.long pre.good_words.0 pre.good_words.1 pre.good_words.2)

pub slice_bounds-evolve_and_clear-end : goal.slice_bounds-evolve_and_clear-end
slice_bounds-evolve_and_clear-end c =
    let a = c.args in
    let pre = c.requires in
    sym (length-take-le a.len a.start.now (omega (arith, pre.long.start_long, pre.good_words.2)))

pub evolve_and_clear-numbers-requires : goal.evolve_and_clear-numbers-requires
evolve_and_clear-numbers-requires c =
    let a = c.args in
    let pre = c.requires in
    let t : ModelTables = model_tables a.h_words.now a.h_coeffs.now a.jumps.now a.rates.now a.t_words.now a.t_numbers.now in
    let l = c.lay_slots in
    let q = c.build_matrix-built in
    rows_ready a.m t pre.tested.0 (words_in (take (a.len * word_lanes) a.grown_words.now)) a.len (basis_size a.m t pre.tested.0 a.places a.len a.h_index.now a.j_index.now a.mask.now a.heads.now a.nexts.now a.place_order.now a.grown_words.now a.cand_sums.now a.list_values.now a.work_sums.now a.start.now a.evolved.now pre.long pre.good_words.0 pre.good_words.1 pre.good_words.2) (Generator.work_of a.h_index.now a.j_index.now a.mask.now l.new.heads (l.new.nexts ++ drop a.len a.nexts.now) a.work_words.now a.work_sums.now a.stage_rows.now a.stage_columns.now a.cand_sums.now) a.place_order.now a.columns.now a.values.now (starts_given a.m t pre.tested.0 a.places a.len a.h_index.now a.j_index.now a.mask.now a.heads.now a.nexts.now a.place_order.now a.grown_words.now a.cand_sums.now a.list_values.now a.work_sums.now a.start.now a.evolved.now pre.long pre.good_words.0 pre.good_words.1 pre.good_words.2) q.result q.new.offsets q.new.columns q.new.values q.ensures.rows q.auto.columns q.auto.values a.start.now q.new.stage_values a.list_values.now q.new.work_sums a.evolved.now (numbers_given a.m t pre.tested.0 a.places a.len a.h_index.now a.j_index.now a.mask.now a.heads.now a.nexts.now a.place_order.now a.grown_words.now a.cand_sums.now a.list_values.now a.work_sums.now a.start.now a.evolved.now pre.long pre.good_words.0 pre.good_words.1 pre.good_words.2 q.new.stage_values q.new.work_sums q.auto.stage_values q.auto.work_sums) q.auto.offsets

pub step_of-requires : goal.step_of-requires
step_of-requires c = tt

pub returns : goal.returns
returns c =
    let a = c.args in
    let pre = c.requires in
    let t : ModelTables = model_tables a.h_words.now a.h_coeffs.now a.jumps.now a.rates.now a.t_words.now a.t_numbers.now in
    let l = c.lay_slots in
    let q = c.build_matrix-built in
    let r = c.evolve_and_clear-numbers in
    let w : Work = work_of (Generator.work_of a.h_index.now a.j_index.now a.mask.now a.heads.now a.nexts.now a.work_words.now a.work_sums.now a.stage_rows.now a.stage_columns.now a.cand_sums.now) a.place_order.now a.columns.now a.values.now a.cand_sums.now a.list_values.now a.work_sums.now in
    let e : Taylor.Evolves = record { answer = r.result; out = r.new.out } in (
      λ p protected at. evolves_plain a.m t pre.tested.0 a.dt a.drop_tol pre.tested.1 pre.tested.2 a.places a.len a.grown_words.now a.start.now w a.evolved.now pre.long pre.good_words.0 pre.good_words.1 pre.good_words.2 e
          (course_is a.m t pre.tested.0 (words_in (take (a.len * word_lanes) a.grown_words.now)) a.len (basis_size a.m t pre.tested.0 a.places a.len a.h_index.now a.j_index.now a.mask.now a.heads.now a.nexts.now a.place_order.now a.grown_words.now a.cand_sums.now a.list_values.now a.work_sums.now a.start.now a.evolved.now pre.long pre.good_words.0 pre.good_words.1 pre.good_words.2) (Generator.work_of a.h_index.now a.j_index.now a.mask.now l.new.heads (l.new.nexts ++ drop a.len a.nexts.now) a.work_words.now a.work_sums.now a.stage_rows.now a.stage_columns.now a.cand_sums.now) a.place_order.now a.columns.now a.values.now (starts_given a.m t pre.tested.0 a.places a.len a.h_index.now a.j_index.now a.mask.now a.heads.now a.nexts.now a.place_order.now a.grown_words.now a.cand_sums.now a.list_values.now a.work_sums.now a.start.now a.evolved.now pre.long pre.good_words.0 pre.good_words.1 pre.good_words.2) q.result q.new.offsets q.new.columns q.new.values q.ensures.rows q.auto.columns q.auto.values q.new.stage_values a.list_values.now q.new.work_sums q.ensures.norm a.start.now a.dt a.drop_tol a.evolved.now e r.ensures.0
          ∙ over_alike w l.new.heads (l.new.nexts ++ drop a.len a.nexts.now) q.new.stage_values q.new.work_sums a.evolved.now a.m t (basis_is a.m t pre.tested.0 a.places a.len a.h_index.now a.j_index.now a.mask.now a.heads.now a.nexts.now a.place_order.now a.grown_words.now a.cand_sums.now a.list_values.now a.work_sums.now a.start.now a.evolved.now pre.long pre.good_words.0 pre.good_words.1 pre.good_words.2) a.start.now a.len a.dt a.drop_tol)
          p protected at _ c.step_of.ensures,
      ap (λ (y : Generator.Work). y.h_index) q.ensures.work,
      ap (λ (y : Generator.Work). y.j_index) q.ensures.work,
      ap (λ (y : Generator.Work). y.mask) q.ensures.work,
      ap (λ (y : Generator.Work). y.work_words) q.ensures.work,
      r.ensures.6 ∙ ap (λ (i : ℕ). replicate i float0) q.auto.work_sums,
      ap (λ (y : Generator.Work). y.heads) q.ensures.work ∙ ap (λ (i : ℕ). replicate i 0) l.auto.heads,
      ap (λ (y : Generator.Work). y.nexts) q.ensures.work ∙ ap (λ (i : ℕ). replicate i 0) (length_front a.nexts.now l.new.nexts a.len l.auto.nexts),
      r.ensures.4 ∙ ap (λ (i : ℕ). replicate i float0) q.auto.stage_values,
      r.ensures.1 ∙ ap (λ (i : ℕ). replicate i 0) q.auto.offsets,
      r.ensures.5,
    )
