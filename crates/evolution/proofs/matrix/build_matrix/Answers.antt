-- SPDX-FileCopyrightText: 2026 The PPVM Authors
-- SPDX-License-Identifier: Apache-2.0

-- `matrix::build_matrix` meets its contract: what the columns staged, by rows, with its norm, and cleared. Assumes nothing.
use mathlib.Core.Path.{◌≡◌, sym, ap, ap₂, ◌∙◌}
use Prim.Native.Nat.{ℕ, min}
use native.Mathlib.Omega.{arith}
use lib.ListN.{replicate}
use lib.Seq.{length-take-le}
use Rattle.std.specs.Prelude.{Ok}
use Rattle.number.specs.Floats.{float0}
use Rattle.word.specs.Flat.{words as words_in}
use Rattle.model.specs.Stored.{ModelTables}
use Rattle.model.specs.Between.{model_tables}
use Rattle.columns.specs.Between.{StageRoom}
use Rattle.generator.specs.Lent.{Work, work_of}
use Rattle.generator.proofs.ListingLaws.{all_zero}
use Rattle.generator.proofs.CallLaws.{held_rows}
use Rattle.evolution.specs.Between.{count_of}
use Rattle.evolution.proofs.MatrixLaws.{rows_built, acted_is, norm_built}
use Rattle.evolution.proofs.CallLaws.{slots_size}
use Rattle.evolution.proofs.matrix.build_matrix.Goals as goal

pub slice_bounds-gather-end : goal.slice_bounds-gather-end
slice_bounds-gather-end c = c.requires.1.nexts_long

pub slice_bounds-gather-end-2 : goal.slice_bounds-gather-end-2
slice_bounds-gather-end-2 c =
    let a = c.args in
    sym (length-take-le a.len a.nexts.now c.requires.1.nexts_long)

pub gather-staged-requires : goal.gather-staged-requires
gather-staged-requires c =
    let a = c.args in
    let p = c.places_of-stage.ensures in
    let e = c.smaller-places.ensures in
    let room : StageRoom c.smaller-places.result a.stage_rows.now a.stage_columns.now a.stage_values.now = record { rows_long = omega (arith, e, p); columns_long = omega (arith, e, p); values_long = omega (arith, e, p) } in
    (c.requires.0, c.requires.1.ready, room)

pub list_normed-built-requires : goal.list_normed-built-requires
list_normed-built-requires c =
    let a = c.args in
    let t : ModelTables = model_tables a.h_words.now a.h_coeffs.now a.jumps.now a.rates.now a.t_words.now a.t_numbers.now in
    let p = c.places_of-stage.ensures in
    let q = c.smaller-out.ensures in
    let e = c.smaller-places.ensures in
    let g = c.gather-staged in
    let inside : StageRoom c.smaller-places.result g.new.stage_rows g.new.stage_columns g.new.stage_values = record { rows_long = omega (arith, e, p, g.auto.stage_rows); columns_long = omega (arith, e, p, g.auto.stage_columns); values_long = omega (arith, e, p, g.auto.stage_values) } in
    ((held_rows a.m t (words_in a.basis.now) _ _ _ _ _ _ g.ensures.0 a.len a.columns.now a.values.now (slots_size a.m.qubits a.len a.basis.now a.heads.now a.nexts.now c.requires.1) inside (omega (arith, e, q)) (omega (arith, e, q))), c.requires.1.heads_long, c.requires.2)

pub returns : goal.returns
returns c =
    let a = c.args in
    let t : ModelTables = model_tables a.h_words.now a.h_coeffs.now a.jumps.now a.rates.now a.t_words.now a.t_numbers.now in
    let w : Work = work_of a.h_index.now a.j_index.now a.mask.now a.heads.now a.nexts.now a.work_words.now a.work_sums.now a.stage_rows.now a.stage_columns.now a.stage_values.now in
    let p = c.places_of-stage.ensures in
    let q = c.smaller-out.ensures in
    let e = c.smaller-places.ensures in
    let g = c.gather-staged in
    let inside : StageRoom c.smaller-places.result g.new.stage_rows g.new.stage_columns g.new.stage_values = record { rows_long = omega (arith, e, p, g.auto.stage_rows); columns_long = omega (arith, e, p, g.auto.stage_columns); values_long = omega (arith, e, p, g.auto.stage_values) } in
    let n = c.list_normed-built in
    record {
      rows = rows_built a.offsets.now a.columns.now a.values.now w a.m t a.len (words_in a.basis.now) _ _ _ _ _ _ (e ∙ ap₂ min p q) g.ensures.0 n.ensures.0;
      norm = λ x f.
          let h : g.result ≡ Ok x.count = sym (acted_is a.len a.offsets.now a.columns.now a.values.now _ _ _ _ _ _ n.ensures.0) ∙ ap count_of f in
          let r = (held_rows a.m t (words_in a.basis.now) _ _ _ _ _ _ g.ensures.0 a.len a.columns.now a.values.now (slots_size a.m.qubits a.len a.basis.now a.heads.now a.nexts.now c.requires.1) inside (omega (arith, e, q)) (omega (arith, e, q))).rowed x.count h in
          norm_built a.m t (words_in a.basis.now) a.len (slots_size a.m.qubits a.len a.basis.now a.heads.now a.nexts.now c.requires.1) _ _ _ _ _ g.ensures.0 x.count h (record { rows_long = r.rows_long; columns_long = r.columns_long; values_long = r.values_long }) x.norm (n.ensures.2 x f);
      work = all_zero w g.ensures.1 g.ensures.2 g.ensures.3 n.ensures.1 c.clear_lanes.ensures g.ensures.4 g.ensures.5
          (c.clear_entries.ensures.0 ∙ ap (λ (i : ℕ). replicate i 0) g.auto.stage_rows)
          (c.clear_entries.ensures.1 ∙ ap (λ (i : ℕ). replicate i 0) g.auto.stage_columns)
          (c.clear_entries.ensures.2 ∙ ap (λ (i : ℕ). replicate i float0) g.auto.stage_values);
    }
