-- SPDX-FileCopyrightText: 2026 The PPVM Authors
-- SPDX-License-Identifier: Apache-2.0

-- `leak::leakage_with_prune` meets its contract: what passed the tests is what is asked before the passes and by them. Assumes nothing.
use mathlib.Core.Path.{◌≡◌, refl, sym, ap, ◌∙◌}
use mathlib.Core.List.{List}
use Prim.Native.Nat.{ℕ, ◌*◌, ◌≤◌, ◌<◌}
use native.Mathlib.Omega.{arith}
use lib.ListN.{length, take, replicate}
use lib.Seq.{length-take-le}
use Rattle.refusal.proofs.Told.{handed_on}
use Rattle.word.specs.Flat.{word_lanes}
use Rattle.number.specs.Floats.{float0}
use Rattle.model.specs.Stored.{ModelTables}
use Rattle.model.proofs.StandsLaws.{tested_stands}
use Rattle.model.specs.Between.{model_tables}
use Rattle.passes.specs.Between.{Took}
use Rattle.leakage.specs.Leakages.{Basis, basis_of, Work, work_of, candidate_places, leak_tests, leak_course}
use Rattle.std.specs.Prelude.{Ok}
use Rattle.leakage.proofs.GatherLaws.{Passed, leak_passed, basis_lent, candidate_room}
use Rattle.leakage.proofs.LeakLaws.{some_word, model_ready, basis_ready, order_below, gathered}
use Rattle.leakage.proofs.OutLaws.{took_rows, took_inside, leak_refused, leak_accepted, all_zero}
use borrow.Author.Rules.{rules}
use Rattle.leakage.proofs.leak.leakage_with_prune.Goals as goal
use Rattle.leakage.proofs.leak.leakage_with_prune.Goals.{After-run_and_clear-taken, In_ok-check_leakage, Start}

-- ---- what is lent, as the definitions name it
abbrev stored : Start → ModelTables
stored s = let a = s.args in model_tables a.h_words.now a.h_coeffs.now a.jumps.now a.rates.now a.t_words.now a.t_numbers.now

abbrev lent : Start → Basis
lent s = let a = s.args in basis_of a.words.now a.coeffs.now a.len a.protected.now

abbrev work : Start → Work
work s = let a = s.args in work_of a.h_index.now a.j_index.now a.mask.now a.work_words.now a.work_sums.now a.order.now a.heads.now a.nexts.now a.cand_words.now a.cand_sums.now a.place_order.now a.place_work.now

abbrev start_of : In_ok-check_leakage → Start
start_of c = (goal.at.In_ok-check_leakage c).Start

-- ---- the tests are passed
accepted : (c : In_ok-check_leakage) → let s = start_of c in leak_tests s.args.m (stored s) (lent s) s.args.limits (work s) ≡ Ok tt
accepted c = sym (c.check_leakage.ensures (work (start_of c)) refl refl refl refl refl refl) ∙ c.in_ok-check_leakage.was

passed : (c : In_ok-check_leakage) → let s = start_of c in Passed s.args.m (stored s) (lent s) (work s)
passed c = let s = start_of c in leak_passed s.args.m (stored s) (lent s) s.args.limits (work s) (accepted c)

-- ---- what the passes left
abbrev told_of : After-run_and_clear-taken → In_ok-check_leakage
told_of c = (goal.at.After-run_and_clear-taken c).In_ok-check_leakage

took : (c : After-run_and_clear-taken) → let s = start_of (told_of c) in
    Took (candidate_places (work s)) (leak_course s.args.m (stored s) (lent s) s.args.limits (work s)) c.run_and_clear-taken.new.cand_words c.run_and_clear-taken.new.cand_sums c.run_and_clear-taken.new.place_order c.run_and_clear-taken.result
took c =
    let s = start_of (told_of c) in
    let l = c.lay_basis in
    gathered s.args.m (stored s) (lent s) (work s) (passed (told_of c)) _ _ _ l.ensures s.args.limits l.auto.order c.word_room-room.ensures _ _ _ _ c.run_and_clear-taken.ensures.0

pub returns-in_err-check_leakage : goal.returns-in_err-check_leakage
returns-in_err-check_leakage c =
    let s = (goal.at.returns-in_err-check_leakage c).Start in
    rw (handed_on _ _ c.from_residual.ensures.1) (leak_refused c.args.out_words.now c.args.out_values.now (work s) c.args.m (stored s) (lent s) c.args.limits _ (sym (c.check_leakage.ensures (work s) refl refl refl refl refl refl) ∙ c.in_err-check_leakage.was))

pub overflow_add-len : goal.overflow_add-len
overflow_add-len c = omega (arith, (passed (goal.at.overflow_add-len c).In_ok-check_leakage).words_long, c.well_formed.1.1.1.1.1.1.1.0, c.well_formed.1.1.1.1.1.1.1.1.1.1.0)

pub index_model-requires : goal.index_model-requires
index_model-requires c =
    let s = (goal.at.index_model-requires c).Start in
    let a = c.args in
    let p = passed (goal.at.index_model-requires c).In_ok-check_leakage in
    let k = tested_stands a.m (stored s) p.model in
    λ w. (p.h_long w, p.j_long w, k.few_reals, k.few_jumps, k.h_words_room, k.jumps_room, k.rates_room, k.t_words_room, k.fits)

pub lay_basis-requires : goal.lay_basis-requires
lay_basis-requires c =
    let s = (goal.at.lay_basis-requires c).Start in
    λ w. basis_lent c.args.m (stored s) (lent s) (work s) (passed (goal.at.lay_basis-requires c).In_ok-check_leakage) w

pub overflow_mul-len : goal.overflow_mul-len
overflow_mul-len c =
    let a = c.args in
    let h : word_lanes * a.len ≤ length a.words.now = omega (arith, (passed (goal.at.overflow_mul-len c).In_ok-check_leakage).words_long) in
    search (h, c.well_formed.1.1.1.1.1.1.1.0, rules)

pub slice_bounds-run_and_clear-end : goal.slice_bounds-run_and_clear-end
slice_bounds-run_and_clear-end c =
    let a = c.args in
    sym (length-take-le (a.len * word_lanes) a.words.now (omega (arith, (passed (goal.at.slice_bounds-run_and_clear-end c).In_ok-check_leakage).words_long)))

pub slice_bounds-run_and_clear-end-2 : goal.slice_bounds-run_and_clear-end-2
slice_bounds-run_and_clear-end-2 c =
    let a = c.args in
    sym (length-take-le a.len a.coeffs.now (passed (goal.at.slice_bounds-run_and_clear-end-2 c).In_ok-check_leakage).coeffs_long)

pub slice_bounds-run_and_clear-end-3 : goal.slice_bounds-run_and_clear-end-3
slice_bounds-run_and_clear-end-3 c = omega (arith, c.where_any-both.ensures, (passed (goal.at.slice_bounds-run_and_clear-end-3 c).In_ok-check_leakage).nexts_long, c.lay_basis.auto.nexts)

pub slice_bounds-run_and_clear-end-4 : goal.slice_bounds-run_and_clear-end-4
slice_bounds-run_and_clear-end-4 c = sym (length-take-le c.where_any-both.result c.lay_basis.new.nexts (omega (arith, c.where_any-both.ensures, (passed (goal.at.slice_bounds-run_and_clear-end-4 c).In_ok-check_leakage).nexts_long, c.lay_basis.auto.nexts)))

pub slice_bounds-run_and_clear-end-5 : goal.slice_bounds-run_and_clear-end-5
slice_bounds-run_and_clear-end-5 c = omega (arith, (passed (goal.at.slice_bounds-run_and_clear-end-5 c).In_ok-check_leakage).order_long, c.lay_basis.auto.order)

pub slice_bounds-run_and_clear-end-6 : goal.slice_bounds-run_and_clear-end-6
slice_bounds-run_and_clear-end-6 c =
    let a = c.args in
    sym (length-take-le a.len c.lay_basis.new.order (omega (arith, (passed (goal.at.slice_bounds-run_and_clear-end-6 c).In_ok-check_leakage).order_long, c.lay_basis.auto.order)))

pub run_and_clear-taken-requires : goal.run_and_clear-taken-requires
run_and_clear-taken-requires c =
    let s = (goal.at.run_and_clear-taken-requires c).Start in
    let a = c.args in
    let p = passed (goal.at.run_and_clear-taken-requires c).In_ok-check_leakage in
    let q = c.index_model in
    let l = c.lay_basis.ensures in
    let e = c.where_any-both.ensures in
    let order : List ℕ = c.lay_basis.new.order in
    let word_of : 0 < length (take a.len order) → 0 < a.len = some_word a.len order in record {
      model_ready = (λ h. let w = word_of h in model_ready c.args.m (stored s) (lent s) (work s) p w _ _ (q.ensures w (stored s) refl refl refl refl) q.auto.h_index q.auto.j_index);
      basis_ready = (λ h. let w = word_of h in (basis_ready c.args.m (stored s) (lent s) (work s) p _ _ _ l w e, order_below c.args.m (stored s) (lent s) (work s) p _ _ _ l w));
    }

pub list_candidates-listed-requires : goal.list_candidates-listed-requires
list_candidates-listed-requires c =
    let c1 = (goal.at.list_candidates-listed-requires c).After-run_and_clear-taken in
    let s = start_of (told_of c1) in
    let r = candidate_room s.args.cand_words.now s.args.cand_sums.now s.args.place_order.now s.args.place_work.now {r = candidate_places (work s)} refl in
    took_inside (candidate_places (work s)) (leak_course s.args.m (stored s) (lent s) s.args.limits (work s)) _ _ _ _ (took c1) (omega (arith, r.2, c.run_and_clear-taken.auto.place_order))

pub returns : goal.returns
returns c =
    let c1 = (goal.at.returns c).After-run_and_clear-taken in
    let s = start_of (told_of c1) in
    leak_accepted s.args.out_words.now s.args.out_values.now (work s) s.args.m (stored s) (lent s) s.args.limits _ _ _ (accepted (told_of c1)) (took_rows (candidate_places (work s)) (leak_course s.args.m (stored s) (lent s) s.args.limits (work s)) _ _ _ _ (took c1)) c.list_candidates-listed.ensures
    (all_zero (work s)
    (c.clear_four.ensures.0 ∙ ap (λ (n : ℕ). replicate n 0) c.index_model.auto.h_index)
    (c.clear_four.ensures.1 ∙ ap (λ (n : ℕ). replicate n 0) c.index_model.auto.j_index)
    c.run_and_clear-taken.ensures.1
    c.run_and_clear-taken.ensures.2
    c.run_and_clear-taken.ensures.3
    (c.clear_three.ensures.0 ∙ ap (λ (n : ℕ). replicate n 0) c.lay_basis.auto.order)
    (c.clear_three.ensures.1 ∙ ap (λ (n : ℕ). replicate n 0) c.lay_basis.auto.heads)
    (c.clear_three.ensures.2 ∙ ap (λ (n : ℕ). replicate n 0) c.lay_basis.auto.nexts)
    (c.clear_rows.ensures.0 ∙ ap (λ (n : ℕ). replicate n 0) c.run_and_clear-taken.auto.cand_words)
    (c.clear_rows.ensures.1 ∙ ap (λ (n : ℕ). replicate n float0) c.run_and_clear-taken.auto.cand_sums)
    (c.clear_four.ensures.2 ∙ ap (λ (n : ℕ). replicate n 0) c.run_and_clear-taken.auto.place_order)
    (c.clear_four.ensures.3 ∙ ap (λ (n : ℕ). replicate n 0) c.run_and_clear-taken.auto.place_work))
