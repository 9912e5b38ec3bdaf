-- SPDX-FileCopyrightText: 2026 The PPVM Authors
-- SPDX-License-Identifier: Apache-2.0

-- `evolve::evolve` meets its contract: a refusal by a test, or what passed all of them. Assumes nothing.
use mathlib.Core.Path.{refl, sym, ap₂, subst, ◌∙◌}
use mathlib.Core.List.{List}
use Prim.Native.Nat.{ℕ, ◌*◌, ◌≤◌}
use native.Mathlib.Omega.{arith}
use lib.ListN.{length, take}
use lib.Seq.{length-take-le}
use Rattle.refusal.proofs.Told.{handed_on}
use Rattle.word.specs.Flat.{word_lanes}
use Rattle.word.specs.declared.word.Word.{Word}
use Rattle.model.specs.Stored.{ModelTables}
use Rattle.model.specs.Between.{model_tables}
use Rattle.slots.specs.Between.{Slotted}
use Rattle.generator.specs.Lent.{work_of as generator_work}
use Rattle.generator.proofs.LentLaws.{model_lent, basis_words}
use Rattle.evolution.specs.Lent.{Work, work_of}
use Rattle.evolution.proofs.CallLaws.{all_passed, evolve_refused, evolve_tested as evolve_tested_is, slots_ready, slots_alike}
use borrow.Author.Rules.{rules}
use Rattle.evolution.proofs.evolve.evolve.Goals as goal

pub overflow_mul-len : goal.overflow_mul-len
overflow_mul-len c =
    let a = c.args in
    let t : ModelTables = model_tables a.h_words.now a.h_coeffs.now a.jumps.now a.rates.now a.t_words.now a.t_numbers.now in
    let w : Work = work_of (generator_work a.h_index.now a.j_index.now a.mask.now a.heads.now a.nexts.now a.work_words.now a.work_sums.now a.stage_rows.now a.stage_columns.now a.stage_values.now) a.offsets.now a.columns.now a.values.now a.v.now a.b.now a.product.now in
    let d = all_passed a.m t a.words.now a.coeffs.now a.len a.dt a.drop_tol w a.out.now (sym c.check_evolution.ensures.answers ∙ c.in_ok-check_evolution.was) in
    let h : word_lanes * a.len ≤ length a.words.now = omega (arith, d.passed.words_long) in
    search (h, c.well_formed.1.1.1.1.1.1.1.0, rules)

pub slice_bounds-evolve_tested-end : goal.slice_bounds-evolve_tested-end
slice_bounds-evolve_tested-end c =
    let a = c.args in
    let t : ModelTables = model_tables a.h_words.now a.h_coeffs.now a.jumps.now a.rates.now a.t_words.now a.t_numbers.now in
    let w : Work = work_of (generator_work a.h_index.now a.j_index.now a.mask.now a.heads.now a.nexts.now a.work_words.now a.work_sums.now a.stage_rows.now a.stage_columns.now a.stage_values.now) a.offsets.now a.columns.now a.values.now a.v.now a.b.now a.product.now in
    let d = all_passed a.m t a.words.now a.coeffs.now a.len a.dt a.drop_tol w a.out.now (sym c.check_evolution.ensures.answers ∙ c.in_ok-check_evolution.was) in
    sym (length-take-le (a.len * word_lanes) a.words.now (omega (arith, d.passed.words_long)))

pub evolve_tested-requires : goal.evolve_tested-requires
evolve_tested-requires c =
    let a = c.args in
    let t : ModelTables = model_tables a.h_words.now a.h_coeffs.now a.jumps.now a.rates.now a.t_words.now a.t_numbers.now in
    let w : Work = work_of (generator_work a.h_index.now a.j_index.now a.mask.now a.heads.now a.nexts.now a.work_words.now a.work_sums.now a.stage_rows.now a.stage_columns.now a.stage_values.now) a.offsets.now a.columns.now a.values.now a.v.now a.b.now a.product.now in
    let d = all_passed a.m t a.words.now a.coeffs.now a.len a.dt a.drop_tol w a.out.now (sym c.check_evolution.ensures.answers ∙ c.in_ok-check_evolution.was) in
    let k = c.check_evolution in (
      model_lent a.m t a.words.now a.len a.h_index.now a.j_index.now a.mask.now a.heads.now a.nexts.now d.passed,
      slots_ready a.m.qubits a.len (take (a.len * word_lanes) a.words.now) a.heads.now a.nexts.now k.new.heads k.new.nexts d.basis k.auto.heads k.auto.nexts
          (subst (λ (ws : List Word). Slotted ws k.new.heads (take a.len k.new.nexts)) (sym (basis_words a.m t a.words.now a.len a.h_index.now a.j_index.now a.mask.now a.heads.now a.nexts.now d.passed)) (k.ensures.slots.laid c.in_ok-check_evolution.was)),
      d.lent,
    )

pub returns : goal.returns
returns c =
    let a = c.args in
    let t : ModelTables = model_tables a.h_words.now a.h_coeffs.now a.jumps.now a.rates.now a.t_words.now a.t_numbers.now in
    let w : Work = work_of (generator_work a.h_index.now a.j_index.now a.mask.now a.heads.now a.nexts.now a.work_words.now a.work_sums.now a.stage_rows.now a.stage_columns.now a.stage_values.now) a.offsets.now a.columns.now a.values.now a.v.now a.b.now a.product.now in
    let d = all_passed a.m t a.words.now a.coeffs.now a.len a.dt a.drop_tol w a.out.now (sym c.check_evolution.ensures.answers ∙ c.in_ok-check_evolution.was) in
    let k = c.check_evolution in
    c.evolve_tested.ensures
    ∙ slots_alike a.h_index.now a.j_index.now a.mask.now a.heads.now k.new.heads a.nexts.now k.new.nexts a.work_words.now a.work_sums.now a.stage_rows.now a.stage_columns.now a.stage_values.now a.offsets.now a.columns.now a.values.now a.v.now a.b.now a.product.now a.out.now a.m t _ a.coeffs.now a.len a.dt a.drop_tol k.auto.heads k.auto.nexts
    ∙ evolve_tested_is a.m t a.words.now a.coeffs.now a.len a.dt a.drop_tol w a.out.now (sym c.check_evolution.ensures.answers ∙ c.in_ok-check_evolution.was) _ (basis_words a.m t a.words.now a.len a.h_index.now a.j_index.now a.mask.now a.heads.now a.nexts.now d.passed)

pub returns-in_err-check_evolution : goal.returns-in_err-check_evolution
returns-in_err-check_evolution c =
    let a = c.args in
    let t : ModelTables = model_tables a.h_words.now a.h_coeffs.now a.jumps.now a.rates.now a.t_words.now a.t_numbers.now in
    let w : Work = work_of (generator_work a.h_index.now a.j_index.now a.mask.now a.heads.now a.nexts.now a.work_words.now a.work_sums.now a.stage_rows.now a.stage_columns.now a.stage_values.now) a.offsets.now a.columns.now a.values.now a.v.now a.b.now a.product.now in
    let k = c.check_evolution in
    let s = k.ensures.slots.kept _ c.in_err-check_evolution.was in
    rw (handed_on _ _ c.from_residual.ensures.1)
    (evolve_refused a.m t a.words.now a.coeffs.now a.len a.dt a.drop_tol w a.out.now _ (sym k.ensures.answers ∙ c.in_err-check_evolution.was) _ _ refl
    (ap₂ (λ (x y : List ℕ). work_of (generator_work a.h_index.now a.j_index.now a.mask.now x y a.work_words.now a.work_sums.now a.stage_rows.now a.stage_columns.now a.stage_values.now) a.offsets.now a.columns.now a.values.now a.v.now a.b.now a.product.now) s.0 s.1))
