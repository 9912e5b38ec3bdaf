-- SPDX-FileCopyrightText: 2026 The PPVM Authors
-- SPDX-License-Identifier: Apache-2.0

-- `csr::build_csr` meets its contract: a refusal by a test, or what the tested basis gives. Assumes nothing.
use mathlib.Core.Path.{sym, ◌∙◌}
use Prim.Native.Nat.{◌*◌, ◌≤◌}
use native.Mathlib.Omega.{arith}
use lib.ListN.{length}
use lib.Seq.{length-take-le}
use Rattle.refusal.proofs.Told.{handed_on}
use Rattle.word.specs.Flat.{word_lanes}
use Rattle.model.specs.Stored.{ModelTables}
use Rattle.generator.specs.Lent.{Work, work_of}
use Rattle.generator.proofs.CheckLaws.{tables_passed, inside_passed}
use Rattle.generator.proofs.LentLaws.{model_lent, basis_words, basis_lent}
use Rattle.generator.proofs.CallLaws.{build_refused, build_checked, build_tested}
use borrow.Author.Rules.{rules}
use Rattle.model.specs.Between.{model_tables}
use Rattle.generator.proofs.csr.build_csr.Goals as goal

pub overflow_mul-len : goal.overflow_mul-len
overflow_mul-len c =
    let a = c.args in
    let t : ModelTables = model_tables a.h_words.now a.h_coeffs.now a.jumps.now a.rates.now a.t_words.now a.t_numbers.now in
    let w : Work = work_of a.h_index.now a.j_index.now a.mask.now a.heads.now a.nexts.now a.work_words.now a.work_sums.now a.stage_rows.now a.stage_columns.now a.stage_values.now in
    let k = build_checked a.offsets.now a.columns.now a.values.now w a.m t a.words.now a.len (sym c.check_csr.ensures ∙ c.in_ok-check_csr.was) in
    let p = tables_passed a.m t a.words.now a.len (length a.h_index.now) (length a.j_index.now) (length a.mask.now) (length a.heads.now) (length a.nexts.now) k.tables in
    let h : word_lanes * a.len ≤ length a.words.now = omega (arith, p.words_long) in
    search (h, c.well_formed.1.1.1.1.1.1.1.0, rules)

pub slice_bounds-csr_tested-end : goal.slice_bounds-csr_tested-end
slice_bounds-csr_tested-end c =
    let a = c.args in
    let t : ModelTables = model_tables a.h_words.now a.h_coeffs.now a.jumps.now a.rates.now a.t_words.now a.t_numbers.now in
    let w : Work = work_of a.h_index.now a.j_index.now a.mask.now a.heads.now a.nexts.now a.work_words.now a.work_sums.now a.stage_rows.now a.stage_columns.now a.stage_values.now in
    let k = build_checked a.offsets.now a.columns.now a.values.now w a.m t a.words.now a.len (sym c.check_csr.ensures ∙ c.in_ok-check_csr.was) in
    let p = tables_passed a.m t a.words.now a.len (length a.h_index.now) (length a.j_index.now) (length a.mask.now) (length a.heads.now) (length a.nexts.now) k.tables in
    sym (length-take-le (a.len * word_lanes) a.words.now (omega (arith, p.words_long)))

pub csr_tested-requires : goal.csr_tested-requires
csr_tested-requires c =
    let a = c.args in
    let t : ModelTables = model_tables a.h_words.now a.h_coeffs.now a.jumps.now a.rates.now a.t_words.now a.t_numbers.now in
    let w : Work = work_of a.h_index.now a.j_index.now a.mask.now a.heads.now a.nexts.now a.work_words.now a.work_sums.now a.stage_rows.now a.stage_columns.now a.stage_values.now in
    let k = build_checked a.offsets.now a.columns.now a.values.now w a.m t a.words.now a.len (sym c.check_csr.ensures ∙ c.in_ok-check_csr.was) in
    let p = tables_passed a.m t a.words.now a.len (length a.h_index.now) (length a.j_index.now) (length a.mask.now) (length a.heads.now) (length a.nexts.now) k.tables in
    (model_lent a.m t a.words.now a.len a.h_index.now a.j_index.now a.mask.now a.heads.now a.nexts.now p, basis_lent a.m t a.words.now a.len a.h_index.now a.j_index.now a.mask.now a.heads.now a.nexts.now p (inside_passed a.len a.words.now a.m.qubits k.inside), k.offsets_long)

pub returns : goal.returns
returns c =
    let a = c.args in
    let t : ModelTables = model_tables a.h_words.now a.h_coeffs.now a.jumps.now a.rates.now a.t_words.now a.t_numbers.now in
    let w : Work = work_of a.h_index.now a.j_index.now a.mask.now a.heads.now a.nexts.now a.work_words.now a.work_sums.now a.stage_rows.now a.stage_columns.now a.stage_values.now in
    let k = build_checked a.offsets.now a.columns.now a.values.now w a.m t a.words.now a.len (sym c.check_csr.ensures ∙ c.in_ok-check_csr.was) in
    let p = tables_passed a.m t a.words.now a.len (length a.h_index.now) (length a.j_index.now) (length a.mask.now) (length a.heads.now) (length a.nexts.now) k.tables in
    c.csr_tested.ensures ∙ build_tested a.offsets.now a.columns.now a.values.now w a.m t a.words.now a.len (sym c.check_csr.ensures ∙ c.in_ok-check_csr.was) _ (basis_words a.m t a.words.now a.len a.h_index.now a.j_index.now a.mask.now a.heads.now a.nexts.now p)

pub returns-in_err-check_csr : goal.returns-in_err-check_csr
returns-in_err-check_csr c =
    let a = c.args in
    let t : ModelTables = model_tables a.h_words.now a.h_coeffs.now a.jumps.now a.rates.now a.t_words.now a.t_numbers.now in
    let w : Work = work_of a.h_index.now a.j_index.now a.mask.now a.heads.now a.nexts.now a.work_words.now a.work_sums.now a.stage_rows.now a.stage_columns.now a.stage_values.now in
    rw (handed_on _ _ c.from_residual.ensures.1) (build_refused a.offsets.now a.columns.now a.values.now w a.m t a.words.now a.len _ (sym c.check_csr.ensures ∙ c.in_err-check_csr.was))
