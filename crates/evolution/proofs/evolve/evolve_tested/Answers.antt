-- SPDX-FileCopyrightText: 2026 The PPVM Authors
-- SPDX-License-Identifier: Apache-2.0

-- `evolve::evolve_tested` meets its contract: the matrix, then the numbers over it, and zero in all work tables. Assumes nothing.
use mathlib.Core.Path.{sym, ap, ◌∙◌}
use Prim.Native.Nat.{ℕ}
use lib.ListN.{replicate}
use lib.Seq.{length-take-le}
use Rattle.number.specs.Floats.{float0}
use Rattle.word.specs.Flat.{words as words_in}
use Rattle.model.specs.Stored.{ModelTables}
use Rattle.model.specs.Between.{model_tables}
use Rattle.generator.specs.Lent.{work_of as generator_work}
use Rattle.evolution.specs.Lent.{Work, work_of}
use Rattle.evolution.proofs.MatrixLaws.{rows_ready, course_is}
use Rattle.evolution.proofs.CallLaws.{slots_size, work_zero, then_evolved}
use Rattle.evolution.proofs.evolve.evolve_tested.Goals as goal

pub build_matrix-built-requires : goal.build_matrix-built-requires
build_matrix-built-requires c = (c.requires.0, c.requires.1, c.requires.2.offsets_long)

pub slice_bounds-evolve_and_clear-end : goal.slice_bounds-evolve_and_clear-end
slice_bounds-evolve_and_clear-end c =
    let a = c.args in
    sym (length-take-le a.len a.coeffs.now c.requires.2.coeffs_long)

pub evolve_and_clear-requires : goal.evolve_and_clear-requires
evolve_and_clear-requires c =
    let a = c.args in
    let t : ModelTables = model_tables a.h_words.now a.h_coeffs.now a.jumps.now a.rates.now a.t_words.now a.t_numbers.now in
    let q = c.build_matrix-built in
    rows_ready a.m t c.requires.2.passes (words_in a.basis.now) a.len (slots_size a.m.qubits a.len a.basis.now a.heads.now a.nexts.now c.requires.1) (generator_work a.h_index.now a.j_index.now a.mask.now a.heads.now a.nexts.now a.work_words.now a.work_sums.now a.stage_rows.now a.stage_columns.now a.stage_values.now) a.offsets.now a.columns.now a.values.now c.requires.2.offsets_long q.result q.new.offsets q.new.columns q.new.values q.ensures.rows q.auto.columns q.auto.values a.coeffs.now a.v.now a.b.now a.product.now a.out.now c.requires.2 q.auto.offsets

pub returns : goal.returns
returns c =
    let a = c.args in
    let t : ModelTables = model_tables a.h_words.now a.h_coeffs.now a.jumps.now a.rates.now a.t_words.now a.t_numbers.now in
    let w : Work = work_of (generator_work a.h_index.now a.j_index.now a.mask.now a.heads.now a.nexts.now a.work_words.now a.work_sums.now a.stage_rows.now a.stage_columns.now a.stage_values.now) a.offsets.now a.columns.now a.values.now a.v.now a.b.now a.product.now in
    let q = c.build_matrix-built in
    let r = c.evolve_and_clear in
    then_evolved w a.out.now a.m t (words_in a.basis.now) a.coeffs.now a.len a.dt a.drop_tol (record { answer = r.result; out = r.new.out })
    (course_is a.m t c.requires.2.passes (words_in a.basis.now) a.len (slots_size a.m.qubits a.len a.basis.now a.heads.now a.nexts.now c.requires.1) (generator_work a.h_index.now a.j_index.now a.mask.now a.heads.now a.nexts.now a.work_words.now a.work_sums.now a.stage_rows.now a.stage_columns.now a.stage_values.now) a.offsets.now a.columns.now a.values.now c.requires.2.offsets_long q.result q.new.offsets q.new.columns q.new.values q.ensures.rows q.auto.columns q.auto.values a.v.now a.b.now a.product.now q.ensures.norm a.coeffs.now a.dt a.drop_tol a.out.now (record { answer = r.result; out = r.new.out }) r.ensures.0)
    _
    (work_zero w _ _ _ _ _ _ _ q.ensures.work (r.ensures.1 ∙ ap (λ (i : ℕ). replicate i 0) q.auto.offsets) (r.ensures.2 ∙ ap (λ (i : ℕ). replicate i 0) q.auto.columns) (r.ensures.3 ∙ ap (λ (i : ℕ). replicate i float0) q.auto.values) r.ensures.4 r.ensures.5 r.ensures.6)
