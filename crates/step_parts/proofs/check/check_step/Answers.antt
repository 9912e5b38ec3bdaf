-- SPDX-FileCopyrightText: 2026 The PPVM Authors
-- SPDX-License-Identifier: Apache-2.0

-- `check::check_step` meets its contract, part by part. Assumes nothing.
use mathlib.Core.Path.{◌≡◌, refl, sym, ap, ◌∙◌}
use Prim.Native.Nat.{ℕ, ◌*◌, ◌/◌, ◌≤◌}
use native.Mathlib.Omega.{arith}
use lib.ListN.{length, take}
use lib.Seq.{length-take-le}
use Rattle.refusal.proofs.Told.{handed_on}
use Rattle.word.specs.Flat.{words as words_in, word_lanes}
use Rattle.word.proofs.FlatLaws.{words_take}
use Rattle.model.specs.Stored.{ModelTables}
use Rattle.model.specs.Between.{model_tables}
use Rattle.model.proofs.StandsLaws.{tested_stands}
use Rattle.step_parts.proofs.CheckLaws.{given_passed, work_passed, slots_passed, given_refused, work_refused, numbers_refused, all_tested}
use borrow.Author.Rules.{rules}
use Rattle.step_parts.proofs.check.check_step.Goals as goal

pub returns-in_err-check_given : goal.returns-in_err-check_given
returns-in_err-check_given c =
    let a = c.args in
    let t : ModelTables = model_tables a.h_words.now a.h_coeffs.now a.jumps.now a.rates.now a.t_words.now a.t_numbers.now in
    (handed_on _ _ c.from_residual.ensures.1 ∙ given_refused a.m t a.words.now a.coeffs.now a.len a.protected.now a.limits a.dt a.drop_tol a.h_index a.j_index a.mask a.order (length a.heads.now) (length a.nexts.now) a.place_order a.cand_sums a.list_values a.work_sums a.grown_words a.start a.evolved _ _ c.check_given.ensures c.in_err-check_given.was, λ q e. (refl, refl))

pub check_work-requires : goal.check_work-requires
check_work-requires c =
    let a = c.args in
    let t : ModelTables = model_tables a.h_words.now a.h_coeffs.now a.jumps.now a.rates.now a.t_words.now a.t_numbers.now in
    let p = given_passed a.m t a.words.now a.coeffs.now a.len a.protected.now a.limits (sym c.check_given.ensures ∙ c.in_ok-check_given.was) in
    ((tested_stands a.m t p.model).qubits, p.few, p.protected_few)

pub returns-in_err-check_work : goal.returns-in_err-check_work
returns-in_err-check_work c =
    let a = c.args in
    let t : ModelTables = model_tables a.h_words.now a.h_coeffs.now a.jumps.now a.rates.now a.t_words.now a.t_numbers.now in
    (handed_on _ _ c.from_residual-in_err-check_work.ensures.1 ∙ work_refused a.m t a.words.now a.coeffs.now a.len a.protected.now a.limits a.dt a.drop_tol a.h_index a.j_index a.mask a.order (length a.heads.now) (length a.nexts.now) a.place_order a.cand_sums a.list_values a.work_sums a.grown_words a.start a.evolved (sym c.check_given.ensures ∙ c.in_ok-check_given.was) _ _ c.check_work.ensures c.in_err-check_work.was, λ q e. (refl, refl))

pub check_numbers-requires : goal.check_numbers-requires
check_numbers-requires c =
    let a = c.args in
    let t : ModelTables = model_tables a.h_words.now a.h_coeffs.now a.jumps.now a.rates.now a.t_words.now a.t_numbers.now in
    let p = given_passed a.m t a.words.now a.coeffs.now a.len a.protected.now a.limits (sym c.check_given.ensures ∙ c.in_ok-check_given.was) in
    (p.words_long, p.coeffs_long)

pub returns-in_err-check_numbers : goal.returns-in_err-check_numbers
returns-in_err-check_numbers c =
    let a = c.args in
    let t : ModelTables = model_tables a.h_words.now a.h_coeffs.now a.jumps.now a.rates.now a.t_words.now a.t_numbers.now in
    (handed_on _ _ c.from_residual-in_err-check_numbers.ensures.1 ∙ numbers_refused a.m t a.words.now a.coeffs.now a.len a.protected.now a.limits a.dt a.drop_tol a.h_index a.j_index a.mask a.order (length a.heads.now) (length a.nexts.now) a.place_order a.cand_sums a.list_values a.work_sums a.grown_words a.start a.evolved (sym c.check_given.ensures ∙ c.in_ok-check_given.was) (sym c.check_work.ensures ∙ c.in_ok-check_work.was) _ _ c.check_numbers.ensures c.in_err-check_numbers.was, λ q e. (refl, refl))

pub overflow_mul-len : goal.overflow_mul-len
overflow_mul-len c =
    let a = c.args in
    let t : ModelTables = model_tables a.h_words.now a.h_coeffs.now a.jumps.now a.rates.now a.t_words.now a.t_numbers.now in
    let p = given_passed a.m t a.words.now a.coeffs.now a.len a.protected.now a.limits (sym c.check_given.ensures ∙ c.in_ok-check_given.was) in
    let h : word_lanes * a.len ≤ length a.words.now = p.words_long in
    search (h, c.well_formed.1.1.1.1.1.1.1.0, rules)

pub slice_bounds-check_distinct-end : goal.slice_bounds-check_distinct-end
slice_bounds-check_distinct-end c =
    let a = c.args in
    let t : ModelTables = model_tables a.h_words.now a.h_coeffs.now a.jumps.now a.rates.now a.t_words.now a.t_numbers.now in
    let p = given_passed a.m t a.words.now a.coeffs.now a.len a.protected.now a.limits (sym c.check_given.ensures ∙ c.in_ok-check_given.was) in
    sym (length-take-le (a.len * word_lanes) a.words.now (omega (arith, p.words_long)))

pub check_distinct-requires : goal.check_distinct-requires
check_distinct-requires c =
    let a = c.args in
    let t : ModelTables = model_tables a.h_words.now a.h_coeffs.now a.jumps.now a.rates.now a.t_words.now a.t_numbers.now in
    let p = given_passed a.m t a.words.now a.coeffs.now a.len a.protected.now a.limits (sym c.check_given.ensures ∙ c.in_ok-check_given.was) in
    let q = slots_passed a.m.qubits a.len (length a.protected.now / word_lanes) a.h_index a.j_index a.mask a.order (length a.heads.now) (length a.nexts.now) a.place_order a.cand_sums a.list_values a.work_sums a.grown_words a.start a.evolved (work_passed a.m.qubits a.len (length a.protected.now / word_lanes) a.h_index a.j_index a.mask a.order (length a.heads.now) (length a.nexts.now) a.place_order a.cand_sums a.list_values a.work_sums a.grown_words a.start a.evolved (sym c.check_work.ensures ∙ c.in_ok-check_work.was)) in
    (length-take-le (a.len * word_lanes) a.words.now (omega (arith, p.words_long)), q.0, q.1)

pub returns : goal.returns
returns c =
    let a = c.args in
    let t : ModelTables = model_tables a.h_words.now a.h_coeffs.now a.jumps.now a.rates.now a.t_words.now a.t_numbers.now in
    let e : a.len * word_lanes ≡ word_lanes * a.len = omega arith in
    let d = c.check_distinct.ensures in
    (all_tested a.m t a.words.now a.coeffs.now a.len a.protected.now a.limits a.dt a.drop_tol a.h_index a.j_index a.mask a.order (length a.heads.now) (length a.nexts.now) a.place_order a.cand_sums a.list_values a.work_sums a.grown_words a.start a.evolved (sym c.check_given.ensures ∙ c.in_ok-check_given.was) (sym c.check_work.ensures ∙ c.in_ok-check_work.was) (sym c.check_numbers.ensures ∙ c.in_ok-check_numbers.was) _ (ap (λ (k : ℕ). words_in (take k a.words.now)) e ∙ words_take a.len a.words.now) _ d.0, d.1)
