-- SPDX-FileCopyrightText: 2026 The PPVM Authors
-- SPDX-License-Identifier: Apache-2.0

-- `check::check_evolution` meets its contract, part by part. Assumes nothing.
use mathlib.Core.Path.{◌≡◌, sym, ap, ◌∙◌}
use Prim.Native.Nat.{ℕ, ◌*◌, ◌≤◌}
use native.Mathlib.Omega.{arith}
use lib.ListN.{length, take}
use lib.Seq.{length-take-le}
use Rattle.refusal.proofs.Told.{handed_on}
use Rattle.word.specs.Flat.{words as words_in, word_lanes}
use Rattle.word.proofs.FlatLaws.{words_take}
use Rattle.model.specs.Stored.{ModelTables}
use Rattle.model.specs.Between.{model_tables}
use Rattle.model.proofs.StandsLaws.{tested_stands}
use Rattle.evolution.proofs.CheckLaws.{basis_passed, tables_passed}
use Rattle.evolution.proofs.CallLaws.{basis_refused, work_refused, numbers_refused, all_tested}
use borrow.Author.Rules.{rules}
use Rattle.evolution.proofs.check.check_evolution.Goals as goal

pub returns-in_err-check_basis : goal.returns-in_err-check_basis
returns-in_err-check_basis c =
    let a = c.args in
    let t : ModelTables = model_tables a.h_words.now a.h_coeffs.now a.jumps.now a.rates.now a.t_words.now a.t_numbers.now in
    rw (handed_on _ _ c.from_residual.ensures.1)
    (basis_refused a.m t a.words.now a.coeffs.now a.len a.dt a.drop_tol a.h_index a.j_index a.mask a.heads.now a.nexts.now a.offsets a.v a.b a.product a.out _ _ c.check_basis.ensures c.in_err-check_basis.was)

pub check_work-requires : goal.check_work-requires
check_work-requires c =
    let a = c.args in
    let t : ModelTables = model_tables a.h_words.now a.h_coeffs.now a.jumps.now a.rates.now a.t_words.now a.t_numbers.now in
    let p = basis_passed a.m t a.words.now a.coeffs.now a.len (sym c.check_basis.ensures ∙ c.in_ok-check_basis.was) in
    ((tested_stands a.m t p.model).qubits, p.few)

pub returns-in_err-check_work : goal.returns-in_err-check_work
returns-in_err-check_work c =
    let a = c.args in
    let t : ModelTables = model_tables a.h_words.now a.h_coeffs.now a.jumps.now a.rates.now a.t_words.now a.t_numbers.now in
    rw (handed_on _ _ c.from_residual-in_err-check_work.ensures.1)
    (work_refused a.m t a.words.now a.coeffs.now a.len a.dt a.drop_tol a.h_index a.j_index a.mask a.heads.now a.nexts.now a.offsets a.v a.b a.product a.out (sym c.check_basis.ensures ∙ c.in_ok-check_basis.was) _ _ c.check_work.ensures c.in_err-check_work.was)

pub check_numbers-requires : goal.check_numbers-requires
check_numbers-requires c =
    let a = c.args in
    let t : ModelTables = model_tables a.h_words.now a.h_coeffs.now a.jumps.now a.rates.now a.t_words.now a.t_numbers.now in
    let p = basis_passed a.m t a.words.now a.coeffs.now a.len (sym c.check_basis.ensures ∙ c.in_ok-check_basis.was) in
    (omega (arith, p.words_long), p.coeffs_long)

pub returns-in_err-check_numbers : goal.returns-in_err-check_numbers
returns-in_err-check_numbers c =
    let a = c.args in
    let t : ModelTables = model_tables a.h_words.now a.h_coeffs.now a.jumps.now a.rates.now a.t_words.now a.t_numbers.now in
    rw (handed_on _ _ c.from_residual-in_err-check_numbers.ensures.1)
    (numbers_refused a.m t a.words.now a.coeffs.now a.len a.dt a.drop_tol a.h_index a.j_index a.mask a.heads.now a.nexts.now a.offsets a.v a.b a.product a.out (sym c.check_basis.ensures ∙ c.in_ok-check_basis.was) (sym c.check_work.ensures ∙ c.in_ok-check_work.was) _ _ c.check_numbers.ensures c.in_err-check_numbers.was)

pub overflow_mul-len : goal.overflow_mul-len
overflow_mul-len c =
    let a = c.args in
    let t : ModelTables = model_tables a.h_words.now a.h_coeffs.now a.jumps.now a.rates.now a.t_words.now a.t_numbers.now in
    let p = basis_passed a.m t a.words.now a.coeffs.now a.len (sym c.check_basis.ensures ∙ c.in_ok-check_basis.was) in
    let h : word_lanes * a.len ≤ length a.words.now = omega (arith, p.words_long) in
    search (h, c.well_formed.1.1.1.1.1.1.1.0, rules)

pub slice_bounds-check_distinct-end : goal.slice_bounds-check_distinct-end
slice_bounds-check_distinct-end c =
    let a = c.args in
    let t : ModelTables = model_tables a.h_words.now a.h_coeffs.now a.jumps.now a.rates.now a.t_words.now a.t_numbers.now in
    let p = basis_passed a.m t a.words.now a.coeffs.now a.len (sym c.check_basis.ensures ∙ c.in_ok-check_basis.was) in
    sym (length-take-le (a.len * word_lanes) a.words.now (omega (arith, p.words_long)))

pub check_distinct-requires : goal.check_distinct-requires
check_distinct-requires c =
    let a = c.args in
    let t : ModelTables = model_tables a.h_words.now a.h_coeffs.now a.jumps.now a.rates.now a.t_words.now a.t_numbers.now in
    let p = basis_passed a.m t a.words.now a.coeffs.now a.len (sym c.check_basis.ensures ∙ c.in_ok-check_basis.was) in
    let q = tables_passed a.m.qubits a.len a.h_index a.j_index a.mask (length a.heads.now) (length a.nexts.now) a.offsets a.v a.b a.product a.out (sym c.check_work.ensures ∙ c.in_ok-check_work.was) in
    (length-take-le (a.len * word_lanes) a.words.now (omega (arith, p.words_long)), q.heads_long, q.nexts_long)

pub returns : goal.returns
returns c =
    let a = c.args in
    let t : ModelTables = model_tables a.h_words.now a.h_coeffs.now a.jumps.now a.rates.now a.t_words.now a.t_numbers.now in
    let e : a.len * word_lanes ≡ word_lanes * a.len = omega arith in
    all_tested a.m t a.words.now a.coeffs.now a.len a.dt a.drop_tol a.h_index a.j_index a.mask a.heads.now a.nexts.now a.offsets a.v a.b a.product a.out (sym c.check_basis.ensures ∙ c.in_ok-check_basis.was) (sym c.check_work.ensures ∙ c.in_ok-check_work.was) (sym c.check_numbers.ensures ∙ c.in_ok-check_numbers.was) _ (ap (λ (k : ℕ). words_in (take k a.words.now)) e ∙ words_take a.len a.words.now) _ _ _ c.check_distinct.ensures
