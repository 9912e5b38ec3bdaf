-- SPDX-FileCopyrightText: 2026 The PPVM Authors
-- SPDX-License-Identifier: Apache-2.0

-- `steps::pebblelinen_step` meets its contract: from part to part it stands as the laws say. Assumes nothing.
use mathlib.Core.Path.{◌≡◌, refl, sym, ap, ap₂, subst, ◌∙◌}
use mathlib.Core.Bool.{not, ◌&&◌}
use mathlib.Core.List.{List}
use Prim.Native.Nat.{ℕ, ◌+◌, ◌*◌, ◌/◌, ◌≤◌}
use native.Mathlib.Omega.{arith}
use lib.Dec.{eqb}
use lib.Ieee.{Float}
use lib.ListN.{length, take}
use Rattle.word.specs.Flat.{words as words_in, word_lanes}
use Rattle.model.specs.Stored.{ModelTables}
use Rattle.model.specs.Between.{model_tables}
use Rattle.limits.specs.Defaults.{limit_of, tau_of}
use Rattle.std.specs.Prelude.{Result, Ok}
use Rattle.refusal.specs.declared.Refusal.{Refusal}
use Rattle.step_parts.specs.declared.taken.Step.{Step}
use Rattle.step_laws.specs.Steps.{hop}
use Rattle.step_laws.specs.Passing.{GoodWords, AreFinite}
use Rattle.step_parts.specs.Lent.{Work, work_of, step_tests}
use Rattle.step_parts.specs.Ends.{ending}
use Rattle.step_parts.specs.Between.{HopLong, EvolveLong, Holds, HopPlaces, Hops}
use Rattle.step_legs.specs.Between.{Follows}
use Rattle.step.specs.Between.{Start, start_of, grown_to, entries_in, Standing}
use Rattle.step.specs.Calls.{step}
use Rattle.step.specs.Exports.{LeavesStep}
use Rattle.step.proofs.StandingLaws.{Due, due_stands, back, work_same, starts, begun, turned_away, poised, hop_long, hop_given, hop_stands, before_it, evolve_given, evolve_ready, zero_h_index, zero_j_index, zero_mask, zero_work_words, zero_work_sums, zero_heads, zero_nexts, zero_cand_sums, zero_place_order, zero_list_values, done_few, evolve_stands, end_ready, end_zero_order, end_zero_heads, end_zero_nexts, end_zero_place_order, end_stands, leaves_step}
use borrow.Author.Rules.{rules}
use Rattle.step.proofs.steps.pebblelinen_step.Goals as goal

pub loop-part-init : goal.loop-part-init
loop-part-init c =
    let a = c.args in
    let t : ModelTables = model_tables a.h_words.now a.h_coeffs.now a.jumps.now a.rates.now a.t_words.now a.t_numbers.now in
    let s : Start = start_of a.model t a.words.now a.coeffs.now a.len a.protected.now a.limits a.dt a.drop_tol (work_of a.h_index.now a.j_index.now a.mask.now a.work_words.now a.work_sums.now a.order.now a.heads.now a.nexts.now a.cand_words.now a.cand_sums.now a.place_order.now a.place_work.now a.list_words.now a.list_values.now a.stage_rows.now a.stage_columns.now a.columns.now a.values.now a.grown_words.now a.start.now a.evolved.now) in
    starts s (Ok a.len)

pub returns-in-Err : goal.returns-in-Err
returns-in-Err c =
    let a = c.args in
    let t : ModelTables = model_tables a.h_words.now a.h_coeffs.now a.jumps.now a.rates.now a.t_words.now a.t_numbers.now in
    let s : Start = start_of a.model t a.words.now a.coeffs.now a.len a.protected.now a.limits a.dt a.drop_tol (work_of a.h_index.now a.j_index.now a.mask.now a.work_words.now a.work_sums.now a.order.now a.heads.now a.nexts.now a.cand_words.now a.cand_sums.now a.place_order.now a.place_work.now a.list_words.now a.list_values.now a.stage_rows.now a.stage_columns.now a.columns.now a.values.now a.grown_words.now a.start.now a.evolved.now) in
    let l = c.loop-part in
    let w : Work = work_of l.h_index l.j_index l.mask l.work_words l.work_sums l.order l.heads l.nexts l.cand_words l.cand_sums l.place_order l.place_work l.list_words l.list_values l.stage_rows l.stage_columns l.columns l.values l.grown_words l.start l.evolved in
    let below = c.loop-part-test.true in
    let n = c.word_limit-limit in
    let u = c.due_part-due in
    let d : Due s l.part u.result l.taken l.hopped w = due_stands s l.part l.taken l.hopped l.words l.coeffs w l.invariant below n.result u.result n.ensures u.ensures in
    let we : l.words ≡ s.lanes = l.invariant.lanes_stay below in
    let ce : l.coeffs ≡ s.coeffs = l.invariant.coeffs_stay below in
    let is = c.if-due-eq0.true in
    let b = c.begin_step-tests in
    let told = b.ensures.0 ∙ ap₂ (λ (x : List ℕ) (y : List Float). step_tests a.model t x y a.len a.protected.now a.limits a.dt a.drop_tol (length l.h_index) (length l.j_index) (length l.mask) (length l.order) (length l.heads) (length l.nexts) (length l.place_order) (length l.cand_sums) (length l.list_values) (length l.work_sums) (length l.grown_words) (length l.start) (length l.evolved)) we ce in
    let q = c.in-Err.is in
    let e = b.ensures.1 _ q in
    let r = c.from in
    subst (λ (x : List ℕ). LeavesStep (step a.model t a.words.now a.coeffs.now a.len a.protected.now a.limits a.dt a.drop_tol s.work) r.result x l.coeffs (work_of l.h_index l.j_index l.mask l.work_words l.work_sums l.order c.begin_step-tests.new.heads c.begin_step-tests.new.nexts l.cand_words l.cand_sums l.place_order l.place_work l.list_words l.list_values l.stage_rows l.stage_columns l.columns l.values c.begin_step-tests.new.grown_words c.begin_step-tests.new.start c.begin_step-tests.new.evolved)) (sym we)
    (subst (λ (y : List Float). LeavesStep (step a.model t a.words.now a.coeffs.now a.len a.protected.now a.limits a.dt a.drop_tol s.work) r.result s.lanes y (work_of l.h_index l.j_index l.mask l.work_words l.work_sums l.order c.begin_step-tests.new.heads c.begin_step-tests.new.nexts l.cand_words l.cand_sums l.place_order l.place_work l.list_words l.list_values l.stage_rows l.stage_columns l.columns l.values c.begin_step-tests.new.grown_words c.begin_step-tests.new.start c.begin_step-tests.new.evolved)) (sym ce)
    (turned_away s u.result l.taken l.hopped w d.stands is b.result told _ q _ (work_same w _ _ _ _ _ e.0 e.1 e.2 e.3 e.4) r.result r.ensures))

pub overflow_add-part : goal.overflow_add-part
overflow_add-part c =
    let a = c.args in
    let t : ModelTables = model_tables a.h_words.now a.h_coeffs.now a.jumps.now a.rates.now a.t_words.now a.t_numbers.now in
    let s : Start = start_of a.model t a.words.now a.coeffs.now a.len a.protected.now a.limits a.dt a.drop_tol (work_of a.h_index.now a.j_index.now a.mask.now a.work_words.now a.work_sums.now a.order.now a.heads.now a.nexts.now a.cand_words.now a.cand_sums.now a.place_order.now a.place_work.now a.list_words.now a.list_values.now a.stage_rows.now a.stage_columns.now a.columns.now a.values.now a.grown_words.now a.start.now a.evolved.now) in
    let l = c.loop-part in
    let w : Work = work_of l.h_index l.j_index l.mask l.work_words l.work_sums l.order l.heads l.nexts l.cand_words l.cand_sums l.place_order l.place_work l.list_words l.list_values l.stage_rows l.stage_columns l.columns l.values l.grown_words l.start l.evolved in
    let below = c.loop-part-test.true in
    let n = c.word_limit-limit in
    let u = c.due_part-due in
    let d : Due s l.part u.result l.taken l.hopped w = due_stands s l.part l.taken l.hopped l.words l.coeffs w l.invariant below n.result u.result n.ensures u.ensures in
    let we : l.words ≡ s.lanes = l.invariant.lanes_stay below in
    let ce : l.coeffs ≡ s.coeffs = l.invariant.coeffs_stay below in
    search (d.below, rules)

pub loop-part-smaller-then-due-eq0 : goal.loop-part-smaller-then-due-eq0
loop-part-smaller-then-due-eq0 c =
    let a = c.args in
    let t : ModelTables = model_tables a.h_words.now a.h_coeffs.now a.jumps.now a.rates.now a.t_words.now a.t_numbers.now in
    let s : Start = start_of a.model t a.words.now a.coeffs.now a.len a.protected.now a.limits a.dt a.drop_tol (work_of a.h_index.now a.j_index.now a.mask.now a.work_words.now a.work_sums.now a.order.now a.heads.now a.nexts.now a.cand_words.now a.cand_sums.now a.place_order.now a.place_work.now a.list_words.now a.list_values.now a.stage_rows.now a.stage_columns.now a.columns.now a.values.now a.grown_words.now a.start.now a.evolved.now) in
    let l = c.loop-part in
    let w : Work = work_of l.h_index l.j_index l.mask l.work_words l.work_sums l.order l.heads l.nexts l.cand_words l.cand_sums l.place_order l.place_work l.list_words l.list_values l.stage_rows l.stage_columns l.columns l.values l.grown_words l.start l.evolved in
    let below = c.loop-part-test.true in
    let n = c.word_limit-limit in
    let u = c.due_part-due in
    let d : Due s l.part u.result l.taken l.hopped w = due_stands s l.part l.taken l.hopped l.words l.coeffs w l.invariant below n.result u.result n.ensures u.ensures in
    let we : l.words ≡ s.lanes = l.invariant.lanes_stay below in
    let ce : l.coeffs ≡ s.coeffs = l.invariant.coeffs_stay below in
    omega (arith, d.onward, below)

pub loop-part-preserved-then-due-eq0 : goal.loop-part-preserved-then-due-eq0
loop-part-preserved-then-due-eq0 c =
    let a = c.args in
    let t : ModelTables = model_tables a.h_words.now a.h_coeffs.now a.jumps.now a.rates.now a.t_words.now a.t_numbers.now in
    let s : Start = start_of a.model t a.words.now a.coeffs.now a.len a.protected.now a.limits a.dt a.drop_tol (work_of a.h_index.now a.j_index.now a.mask.now a.work_words.now a.work_sums.now a.order.now a.heads.now a.nexts.now a.cand_words.now a.cand_sums.now a.place_order.now a.place_work.now a.list_words.now a.list_values.now a.stage_rows.now a.stage_columns.now a.columns.now a.values.now a.grown_words.now a.start.now a.evolved.now) in
    let l = c.loop-part in
    let w : Work = work_of l.h_index l.j_index l.mask l.work_words l.work_sums l.order l.heads l.nexts l.cand_words l.cand_sums l.place_order l.place_work l.list_words l.list_values l.stage_rows l.stage_columns l.columns l.values l.grown_words l.start l.evolved in
    let below = c.loop-part-test.true in
    let n = c.word_limit-limit in
    let u = c.due_part-due in
    let d : Due s l.part u.result l.taken l.hopped w = due_stands s l.part l.taken l.hopped l.words l.coeffs w l.invariant below n.result u.result n.ensures u.ensures in
    let we : l.words ≡ s.lanes = l.invariant.lanes_stay below in
    let ce : l.coeffs ≡ s.coeffs = l.invariant.coeffs_stay below in
    let is = c.if-due-eq0.true in
    let b = c.begin_step-tests in
    let told = b.ensures.0 ∙ ap₂ (λ (x : List ℕ) (y : List Float). step_tests a.model t x y a.len a.protected.now a.limits a.dt a.drop_tol (length l.h_index) (length l.j_index) (length l.mask) (length l.order) (length l.heads) (length l.nexts) (length l.place_order) (length l.cand_sums) (length l.list_values) (length l.work_sums) (length l.grown_words) (length l.start) (length l.evolved)) we ce in
    let ok = c.in_default.is in
    let e = b.ensures.2 ok in
    back s _ _ _ _ _ _ we ce
    (begun s u.result l.taken l.hopped w d.stands is b.result told ok (work_of l.h_index l.j_index l.mask l.work_words l.work_sums l.order c.begin_step-tests.new.heads c.begin_step-tests.new.nexts l.cand_words l.cand_sums l.place_order l.place_work l.list_words l.list_values l.stage_rows l.stage_columns l.columns l.values c.begin_step-tests.new.grown_words c.begin_step-tests.new.start c.begin_step-tests.new.evolved) (record { h_index = refl; j_index = refl; mask = refl; work_words = refl; work_sums = refl; order = refl; heads = c.begin_step-tests.auto.heads; nexts = c.begin_step-tests.auto.nexts; cand_words = refl; cand_sums = refl; place_order = refl; place_work = refl; list_words = refl; list_values = refl; stage_rows = refl; stage_columns = refl; columns = refl; values = refl; grown_words = c.begin_step-tests.auto.grown_words; start = c.begin_step-tests.auto.start; evolved = c.begin_step-tests.auto.evolved })
    (e.0 ∙ ap (λ (x : List ℕ). take a.len (words_in x)) we) (e.1 ∙ ap (take a.len) ce) (e.2 ∙ ap (take a.len) ce))

pub end_step-taken-requires : goal.end_step-taken-requires
end_step-taken-requires c =
    let a = c.args in
    let t : ModelTables = model_tables a.h_words.now a.h_coeffs.now a.jumps.now a.rates.now a.t_words.now a.t_numbers.now in
    let s : Start = start_of a.model t a.words.now a.coeffs.now a.len a.protected.now a.limits a.dt a.drop_tol (work_of a.h_index.now a.j_index.now a.mask.now a.work_words.now a.work_sums.now a.order.now a.heads.now a.nexts.now a.cand_words.now a.cand_sums.now a.place_order.now a.place_work.now a.list_words.now a.list_values.now a.stage_rows.now a.stage_columns.now a.columns.now a.values.now a.grown_words.now a.start.now a.evolved.now) in
    let l = c.loop-part in
    let w : Work = work_of l.h_index l.j_index l.mask l.work_words l.work_sums l.order l.heads l.nexts l.cand_words l.cand_sums l.place_order l.place_work l.list_words l.list_values l.stage_rows l.stage_columns l.columns l.values l.grown_words l.start l.evolved in
    let below = c.loop-part-test.true in
    let n = c.word_limit-limit in
    let u = c.due_part-due in
    let d : Due s l.part u.result l.taken l.hopped w = due_stands s l.part l.taken l.hopped l.words l.coeffs w l.invariant below n.result u.result n.ensures u.ensures in
    let we : l.words ≡ s.lanes = l.invariant.lanes_stay below in
    let ce : l.coeffs ≡ s.coeffs = l.invariant.coeffs_stay below in
    let is = c.if-due-eq5.true in (
      (λ k products e.
          let r = end_ready s u.result l.taken l.hopped w d.stands is k products e in
          (r.0, subst (λ (x : List ℕ). word_lanes * k ≤ length x) (sym we) r.1, subst (λ (x : List Float). k ≤ length x) (sym ce) r.2)),
      end_zero_order s u.result l.taken l.hopped w d.stands is,
      end_zero_heads s u.result l.taken l.hopped w d.stands is,
      end_zero_nexts s u.result l.taken l.hopped w d.stands is,
      end_zero_place_order s u.result l.taken l.hopped w d.stands is,
    )

pub overflow_add-part-then-due-eq5 : goal.overflow_add-part-then-due-eq5
overflow_add-part-then-due-eq5 c =
    let a = c.args in
    let t : ModelTables = model_tables a.h_words.now a.h_coeffs.now a.jumps.now a.rates.now a.t_words.now a.t_numbers.now in
    let s : Start = start_of a.model t a.words.now a.coeffs.now a.len a.protected.now a.limits a.dt a.drop_tol (work_of a.h_index.now a.j_index.now a.mask.now a.work_words.now a.work_sums.now a.order.now a.heads.now a.nexts.now a.cand_words.now a.cand_sums.now a.place_order.now a.place_work.now a.list_words.now a.list_values.now a.stage_rows.now a.stage_columns.now a.columns.now a.values.now a.grown_words.now a.start.now a.evolved.now) in
    let l = c.loop-part in
    let w : Work = work_of l.h_index l.j_index l.mask l.work_words l.work_sums l.order l.heads l.nexts l.cand_words l.cand_sums l.place_order l.place_work l.list_words l.list_values l.stage_rows l.stage_columns l.columns l.values l.grown_words l.start l.evolved in
    let below = c.loop-part-test.true in
    let n = c.word_limit-limit in
    let u = c.due_part-due in
    let d : Due s l.part u.result l.taken l.hopped w = due_stands s l.part l.taken l.hopped l.words l.coeffs w l.invariant below n.result u.result n.ensures u.ensures in
    let we : l.words ≡ s.lanes = l.invariant.lanes_stay below in
    let ce : l.coeffs ≡ s.coeffs = l.invariant.coeffs_stay below in
    search (d.below, rules)

pub loop-part-smaller-then-due-eq5 : goal.loop-part-smaller-then-due-eq5
loop-part-smaller-then-due-eq5 c =
    let a = c.args in
    let t : ModelTables = model_tables a.h_words.now a.h_coeffs.now a.jumps.now a.rates.now a.t_words.now a.t_numbers.now in
    let s : Start = start_of a.model t a.words.now a.coeffs.now a.len a.protected.now a.limits a.dt a.drop_tol (work_of a.h_index.now a.j_index.now a.mask.now a.work_words.now a.work_sums.now a.order.now a.heads.now a.nexts.now a.cand_words.now a.cand_sums.now a.place_order.now a.place_work.now a.list_words.now a.list_values.now a.stage_rows.now a.stage_columns.now a.columns.now a.values.now a.grown_words.now a.start.now a.evolved.now) in
    let l = c.loop-part in
    let w : Work = work_of l.h_index l.j_index l.mask l.work_words l.work_sums l.order l.heads l.nexts l.cand_words l.cand_sums l.place_order l.place_work l.list_words l.list_values l.stage_rows l.stage_columns l.columns l.values l.grown_words l.start l.evolved in
    let below = c.loop-part-test.true in
    let n = c.word_limit-limit in
    let u = c.due_part-due in
    let d : Due s l.part u.result l.taken l.hopped w = due_stands s l.part l.taken l.hopped l.words l.coeffs w l.invariant below n.result u.result n.ensures u.ensures in
    let we : l.words ≡ s.lanes = l.invariant.lanes_stay below in
    let ce : l.coeffs ≡ s.coeffs = l.invariant.coeffs_stay below in
    omega (arith, d.onward, below)

pub loop-part-preserved-then-due-eq5 : goal.loop-part-preserved-then-due-eq5
loop-part-preserved-then-due-eq5 c =
    let a = c.args in
    let t : ModelTables = model_tables a.h_words.now a.h_coeffs.now a.jumps.now a.rates.now a.t_words.now a.t_numbers.now in
    let s : Start = start_of a.model t a.words.now a.coeffs.now a.len a.protected.now a.limits a.dt a.drop_tol (work_of a.h_index.now a.j_index.now a.mask.now a.work_words.now a.work_sums.now a.order.now a.heads.now a.nexts.now a.cand_words.now a.cand_sums.now a.place_order.now a.place_work.now a.list_words.now a.list_values.now a.stage_rows.now a.stage_columns.now a.columns.now a.values.now a.grown_words.now a.start.now a.evolved.now) in
    let l = c.loop-part in
    let w : Work = work_of l.h_index l.j_index l.mask l.work_words l.work_sums l.order l.heads l.nexts l.cand_words l.cand_sums l.place_order l.place_work l.list_words l.list_values l.stage_rows l.stage_columns l.columns l.values l.grown_words l.start l.evolved in
    let below = c.loop-part-test.true in
    let n = c.word_limit-limit in
    let u = c.due_part-due in
    let d : Due s l.part u.result l.taken l.hopped w = due_stands s l.part l.taken l.hopped l.words l.coeffs w l.invariant below n.result u.result n.ensures u.ensures in
    let we : l.words ≡ s.lanes = l.invariant.lanes_stay below in
    let ce : l.coeffs ≡ s.coeffs = l.invariant.coeffs_stay below in
    let is = c.if-due-eq5.true in
    let e = c.end_step-taken in
    end_stands s u.result l.taken l.hopped w d.stands is e.result c.end_step-taken.new.words c.end_step-taken.new.coeffs (work_of l.h_index l.j_index l.mask l.work_words l.work_sums c.end_step-taken.new.order c.end_step-taken.new.heads c.end_step-taken.new.nexts l.cand_words l.cand_sums c.end_step-taken.new.place_order l.place_work l.list_words l.list_values c.end_step-taken.new.stage_rows c.end_step-taken.new.stage_columns c.end_step-taken.new.columns c.end_step-taken.new.values c.end_step-taken.new.grown_words c.end_step-taken.new.start c.end_step-taken.new.evolved) (record { h_index = refl; j_index = refl; mask = refl; work_words = refl; work_sums = refl; order = c.end_step-taken.auto.order; heads = c.end_step-taken.auto.heads; nexts = c.end_step-taken.auto.nexts; cand_words = refl; cand_sums = refl; place_order = c.end_step-taken.auto.place_order; place_work = refl; list_words = refl; list_values = refl; stage_rows = c.end_step-taken.auto.stage_rows; stage_columns = c.end_step-taken.auto.stage_columns; columns = c.end_step-taken.auto.columns; values = c.end_step-taken.auto.values; grown_words = c.end_step-taken.auto.grown_words; start = c.end_step-taken.auto.start; evolved = c.end_step-taken.auto.evolved }) (c.end_step-taken.auto.words ∙ l.invariant.lanes_long) (c.end_step-taken.auto.coeffs ∙ l.invariant.coeffs_long)
    (λ x h. e.ensures.0 x h ∙ ap₂ (λ (y : List ℕ) (z : List Float). ending (words_in a.protected.now) a.drop_tol a.limits.max_basis y z x) we ce)
    e.ensures.1 e.ensures.2 e.ensures.3 e.ensures.4 e.ensures.5 e.ensures.6 e.ensures.7 e.ensures.8 e.ensures.9 e.ensures.10 e.ensures.11 refl refl refl refl refl refl refl refl refl refl

pub hop-hopped-requires : goal.hop-hopped-requires
hop-hopped-requires c =
    let a = c.args in
    let t : ModelTables = model_tables a.h_words.now a.h_coeffs.now a.jumps.now a.rates.now a.t_words.now a.t_numbers.now in
    let s : Start = start_of a.model t a.words.now a.coeffs.now a.len a.protected.now a.limits a.dt a.drop_tol (work_of a.h_index.now a.j_index.now a.mask.now a.work_words.now a.work_sums.now a.order.now a.heads.now a.nexts.now a.cand_words.now a.cand_sums.now a.place_order.now a.place_work.now a.list_words.now a.list_values.now a.stage_rows.now a.stage_columns.now a.columns.now a.values.now a.grown_words.now a.start.now a.evolved.now) in
    let l = c.loop-part in
    let w : Work = work_of l.h_index l.j_index l.mask l.work_words l.work_sums l.order l.heads l.nexts l.cand_words l.cand_sums l.place_order l.place_work l.list_words l.list_values l.stage_rows l.stage_columns l.columns l.values l.grown_words l.start l.evolved in
    let below = c.loop-part-test.true in
    let p = c.grown_places-places in
    let n = c.word_limit-limit in
    let u = c.due_part-due in
    let d : Due s l.part u.result l.taken l.hopped w = due_stands s l.part l.taken l.hopped l.words l.coeffs w l.invariant below n.result u.result n.ensures u.ensures in
    let we : l.words ≡ s.lanes = l.invariant.lanes_stay below in
    let ce : l.coeffs ≡ s.coeffs = l.invariant.coeffs_stay below in
    let en = c.entries_of-entries in
    let hops = sym c.is_hop-hops.ensures ∙ c.if-hops.true in
    let pe : p.result ≡ grown_to s = p.ensures in
    let ee : en.result ≡ entries_in l.taken = en.ensures in record {
      given = hop_given s u.result l.taken l.hopped w d.stands hops d.room;
      long = subst (λ (g : ℕ). HopLong a.model.qubits (length a.protected.now / word_lanes) g en.result l.h_index l.j_index l.mask l.order l.heads l.nexts l.grown_words l.start l.evolved) (sym pe) (subst (λ (k : ℕ). HopLong a.model.qubits (length a.protected.now / word_lanes) (grown_to s) k l.h_index l.j_index l.mask l.order l.heads l.nexts l.grown_words l.start l.evolved) (sym ee) (hop_long s u.result l.taken l.hopped w d.stands hops d.room).hop);
      holds = subst (λ (g : ℕ). Holds a.model.qubits g en.result l.grown_words l.start l.evolved) (sym pe) (subst (λ (k : ℕ). Holds a.model.qubits (grown_to s) k l.grown_words l.start l.evolved) (sym ee) (poised s u.result l.taken l.hopped w d.stands hops d.room).held);
    }

pub overflow_add-part-then-hops : goal.overflow_add-part-then-hops
overflow_add-part-then-hops c =
    let a = c.args in
    let t : ModelTables = model_tables a.h_words.now a.h_coeffs.now a.jumps.now a.rates.now a.t_words.now a.t_numbers.now in
    let s : Start = start_of a.model t a.words.now a.coeffs.now a.len a.protected.now a.limits a.dt a.drop_tol (work_of a.h_index.now a.j_index.now a.mask.now a.work_words.now a.work_sums.now a.order.now a.heads.now a.nexts.now a.cand_words.now a.cand_sums.now a.place_order.now a.place_work.now a.list_words.now a.list_values.now a.stage_rows.now a.stage_columns.now a.columns.now a.values.now a.grown_words.now a.start.now a.evolved.now) in
    let l = c.loop-part in
    let w : Work = work_of l.h_index l.j_index l.mask l.work_words l.work_sums l.order l.heads l.nexts l.cand_words l.cand_sums l.place_order l.place_work l.list_words l.list_values l.stage_rows l.stage_columns l.columns l.values l.grown_words l.start l.evolved in
    let below = c.loop-part-test.true in
    let n = c.word_limit-limit in
    let u = c.due_part-due in
    let d : Due s l.part u.result l.taken l.hopped w = due_stands s l.part l.taken l.hopped l.words l.coeffs w l.invariant below n.result u.result n.ensures u.ensures in
    let we : l.words ≡ s.lanes = l.invariant.lanes_stay below in
    let ce : l.coeffs ≡ s.coeffs = l.invariant.coeffs_stay below in
    search (d.below, rules)

pub loop-part-smaller-then-hops : goal.loop-part-smaller-then-hops
loop-part-smaller-then-hops c =
    let a = c.args in
    let t : ModelTables = model_tables a.h_words.now a.h_coeffs.now a.jumps.now a.rates.now a.t_words.now a.t_numbers.now in
    let s : Start = start_of a.model t a.words.now a.coeffs.now a.len a.protected.now a.limits a.dt a.drop_tol (work_of a.h_index.now a.j_index.now a.mask.now a.work_words.now a.work_sums.now a.order.now a.heads.now a.nexts.now a.cand_words.now a.cand_sums.now a.place_order.now a.place_work.now a.list_words.now a.list_values.now a.stage_rows.now a.stage_columns.now a.columns.now a.values.now a.grown_words.now a.start.now a.evolved.now) in
    let l = c.loop-part in
    let w : Work = work_of l.h_index l.j_index l.mask l.work_words l.work_sums l.order l.heads l.nexts l.cand_words l.cand_sums l.place_order l.place_work l.list_words l.list_values l.stage_rows l.stage_columns l.columns l.values l.grown_words l.start l.evolved in
    let below = c.loop-part-test.true in
    let n = c.word_limit-limit in
    let u = c.due_part-due in
    let d : Due s l.part u.result l.taken l.hopped w = due_stands s l.part l.taken l.hopped l.words l.coeffs w l.invariant below n.result u.result n.ensures u.ensures in
    let we : l.words ≡ s.lanes = l.invariant.lanes_stay below in
    let ce : l.coeffs ≡ s.coeffs = l.invariant.coeffs_stay below in
    omega (arith, d.onward, below)

pub loop-part-preserved-then-hops : goal.loop-part-preserved-then-hops
loop-part-preserved-then-hops c =
    let a = c.args in
    let t : ModelTables = model_tables a.h_words.now a.h_coeffs.now a.jumps.now a.rates.now a.t_words.now a.t_numbers.now in
    let s : Start = start_of a.model t a.words.now a.coeffs.now a.len a.protected.now a.limits a.dt a.drop_tol (work_of a.h_index.now a.j_index.now a.mask.now a.work_words.now a.work_sums.now a.order.now a.heads.now a.nexts.now a.cand_words.now a.cand_sums.now a.place_order.now a.place_work.now a.list_words.now a.list_values.now a.stage_rows.now a.stage_columns.now a.columns.now a.values.now a.grown_words.now a.start.now a.evolved.now) in
    let l = c.loop-part in
    let w : Work = work_of l.h_index l.j_index l.mask l.work_words l.work_sums l.order l.heads l.nexts l.cand_words l.cand_sums l.place_order l.place_work l.list_words l.list_values l.stage_rows l.stage_columns l.columns l.values l.grown_words l.start l.evolved in
    let below = c.loop-part-test.true in
    let p = c.grown_places-places in
    let n = c.word_limit-limit in
    let u = c.due_part-due in
    let d : Due s l.part u.result l.taken l.hopped w = due_stands s l.part l.taken l.hopped l.words l.coeffs w l.invariant below n.result u.result n.ensures u.ensures in
    let we : l.words ≡ s.lanes = l.invariant.lanes_stay below in
    let ce : l.coeffs ≡ s.coeffs = l.invariant.coeffs_stay below in
    let en = c.entries_of-entries in
    let hops = sym c.is_hop-hops.ensures ∙ c.if-hops.true in
    let pe : p.result ≡ grown_to s = p.ensures in
    let ee : en.result ≡ entries_in l.taken = en.ensures in
    let h = c.hop-hopped in
    back s _ _ _ _ _ _ we ce
    (hop_stands s u.result l.taken l.hopped w d.stands hops d.room h.result (work_of c.hop-hopped.new.h_index c.hop-hopped.new.j_index c.hop-hopped.new.mask c.hop-hopped.new.work_words c.hop-hopped.new.work_sums c.hop-hopped.new.order c.hop-hopped.new.heads c.hop-hopped.new.nexts c.hop-hopped.new.cand_words c.hop-hopped.new.cand_sums c.hop-hopped.new.place_order c.hop-hopped.new.place_work c.hop-hopped.new.list_words c.hop-hopped.new.list_values l.stage_rows l.stage_columns l.columns l.values c.hop-hopped.new.grown_words c.hop-hopped.new.start l.evolved) (record { h_index = c.hop-hopped.auto.h_index; j_index = c.hop-hopped.auto.j_index; mask = c.hop-hopped.auto.mask; work_words = c.hop-hopped.auto.work_words; work_sums = c.hop-hopped.auto.work_sums; order = c.hop-hopped.auto.order; heads = c.hop-hopped.auto.heads; nexts = c.hop-hopped.auto.nexts; cand_words = c.hop-hopped.auto.cand_words; cand_sums = c.hop-hopped.auto.cand_sums; place_order = c.hop-hopped.auto.place_order; place_work = c.hop-hopped.auto.place_work; list_words = c.hop-hopped.auto.list_words; list_values = c.hop-hopped.auto.list_values; stage_rows = refl; stage_columns = refl; columns = refl; values = refl; grown_words = c.hop-hopped.auto.grown_words; start = c.hop-hopped.auto.start; evolved = refl })
    (λ q dt at. subst (λ (k : ℕ). Hops (hop a.model t (words_in a.protected.now) dt q (limit_of a.limits) (tau_of a.limits) (take k (words_in l.grown_words)) (take k l.evolved)) a.model.qubits (grown_to s) k l.grown_words l.start h.result c.hop-hopped.new.grown_words c.hop-hopped.new.start) ee (subst (λ (g : ℕ). Hops (hop a.model t (words_in a.protected.now) dt q (limit_of a.limits) (tau_of a.limits) (take en.result (words_in l.grown_words)) (take en.result l.evolved)) a.model.qubits g en.result l.grown_words l.start h.result c.hop-hopped.new.grown_words c.hop-hopped.new.start) pe (h.ensures.0 q dt (subst (λ (g : ℕ). HopPlaces q g l.work_words l.work_sums l.cand_words l.cand_sums l.place_order l.place_work l.list_words l.list_values) (sym pe) at))))
    refl h.ensures.1)

pub evolve_after-done-requires : goal.evolve_after-done-requires
evolve_after-done-requires c =
    let a = c.args in
    let t : ModelTables = model_tables a.h_words.now a.h_coeffs.now a.jumps.now a.rates.now a.t_words.now a.t_numbers.now in
    let s : Start = start_of a.model t a.words.now a.coeffs.now a.len a.protected.now a.limits a.dt a.drop_tol (work_of a.h_index.now a.j_index.now a.mask.now a.work_words.now a.work_sums.now a.order.now a.heads.now a.nexts.now a.cand_words.now a.cand_sums.now a.place_order.now a.place_work.now a.list_words.now a.list_values.now a.stage_rows.now a.stage_columns.now a.columns.now a.values.now a.grown_words.now a.start.now a.evolved.now) in
    let l = c.loop-part in
    let w : Work = work_of l.h_index l.j_index l.mask l.work_words l.work_sums l.order l.heads l.nexts l.cand_words l.cand_sums l.place_order l.place_work l.list_words l.list_values l.stage_rows l.stage_columns l.columns l.values l.grown_words l.start l.evolved in
    let below = c.loop-part-test.true in
    let p = c.grown_places-places in
    let n = c.word_limit-limit in
    let u = c.due_part-due in
    let d : Due s l.part u.result l.taken l.hopped w = due_stands s l.part l.taken l.hopped l.words l.coeffs w l.invariant below n.result u.result n.ensures u.ensures in
    let we : l.words ≡ s.lanes = l.invariant.lanes_stay below in
    let ce : l.coeffs ≡ s.coeffs = l.invariant.coeffs_stay below in
    let en = c.entries_of-entries in
    let not-hop = sym c.is_hop-hops.ensures ∙ c.if-hops.false in
    let pe : p.result ≡ grown_to s = p.ensures in
    let ee : en.result ≡ entries_in l.taken = en.ensures in record {
      tested = evolve_given s u.result l.taken l.hopped w d.stands d.below c.if-due-eq0.false c.if-due-eq5.false not-hop;
      long = (λ k e. subst (λ (g : ℕ). EvolveLong a.model.qubits g k l.h_index l.j_index l.mask l.heads l.nexts l.place_order l.grown_words l.cand_sums l.list_values l.work_sums l.start l.evolved × GoodWords a.model.qubits (take k (words_in l.grown_words)) × AreFinite (take k l.start) × (k ≤ g)) (sym pe) (evolve_ready s u.result l.taken l.hopped w d.stands d.below c.if-due-eq0.false c.if-due-eq5.false not-hop k e));
      cleared = (zero_h_index s u.result l.taken l.hopped w d.stands d.below c.if-due-eq0.false c.if-due-eq5.false not-hop, zero_j_index s u.result l.taken l.hopped w d.stands d.below c.if-due-eq0.false c.if-due-eq5.false not-hop, zero_mask s u.result l.taken l.hopped w d.stands d.below c.if-due-eq0.false c.if-due-eq5.false not-hop, zero_work_words s u.result l.taken l.hopped w d.stands d.below c.if-due-eq0.false c.if-due-eq5.false not-hop, zero_work_sums s u.result l.taken l.hopped w d.stands d.below c.if-due-eq0.false c.if-due-eq5.false not-hop, zero_heads s u.result l.taken l.hopped w d.stands d.below c.if-due-eq0.false c.if-due-eq5.false not-hop, zero_nexts s u.result l.taken l.hopped w d.stands d.below c.if-due-eq0.false c.if-due-eq5.false not-hop, zero_cand_sums s u.result l.taken l.hopped w d.stands d.below c.if-due-eq0.false c.if-due-eq5.false not-hop, zero_place_order s u.result l.taken l.hopped w d.stands d.below c.if-due-eq0.false c.if-due-eq5.false not-hop, zero_list_values s u.result l.taken l.hopped w d.stands d.below c.if-due-eq0.false c.if-due-eq5.false not-hop);
    }

pub add_products-taken-requires : goal.add_products-taken-requires
add_products-taken-requires c =
    let a = c.args in
    let t : ModelTables = model_tables a.h_words.now a.h_coeffs.now a.jumps.now a.rates.now a.t_words.now a.t_numbers.now in
    let s : Start = start_of a.model t a.words.now a.coeffs.now a.len a.protected.now a.limits a.dt a.drop_tol (work_of a.h_index.now a.j_index.now a.mask.now a.work_words.now a.work_sums.now a.order.now a.heads.now a.nexts.now a.cand_words.now a.cand_sums.now a.place_order.now a.place_work.now a.list_words.now a.list_values.now a.stage_rows.now a.stage_columns.now a.columns.now a.values.now a.grown_words.now a.start.now a.evolved.now) in
    let l = c.loop-part in
    let w : Work = work_of l.h_index l.j_index l.mask l.work_words l.work_sums l.order l.heads l.nexts l.cand_words l.cand_sums l.place_order l.place_work l.list_words l.list_values l.stage_rows l.stage_columns l.columns l.values l.grown_words l.start l.evolved in
    let below = c.loop-part-test.true in
    let p = c.grown_places-places in
    let n = c.word_limit-limit in
    let u = c.due_part-due in
    let d : Due s l.part u.result l.taken l.hopped w = due_stands s l.part l.taken l.hopped l.words l.coeffs w l.invariant below n.result u.result n.ensures u.ensures in
    let we : l.words ≡ s.lanes = l.invariant.lanes_stay below in
    let ce : l.coeffs ≡ s.coeffs = l.invariant.coeffs_stay below in
    let en = c.entries_of-entries in
    let not-hop = sym c.is_hop-hops.ensures ∙ c.if-hops.false in
    let pe : p.result ≡ grown_to s = p.ensures in
    let ee : en.result ≡ entries_in l.taken = en.ensures in
    let v = c.evolve_after-done in
    let f = subst (λ (k : ℕ). Follows l.hopped (eqb u.result 2) k v.result l.evolved c.evolve_after-done.new.evolved) ee v.ensures.0 in
    ((before_it s u.result l.taken l.hopped w d.stands d.below c.if-due-eq0.false c.if-due-eq5.false not-hop).few, done_few s u.result l.taken l.hopped w d.stands d.below c.if-due-eq0.false c.if-due-eq5.false not-hop (eqb u.result 2) refl v.result (work_of c.evolve_after-done.new.h_index c.evolve_after-done.new.j_index c.evolve_after-done.new.mask c.evolve_after-done.new.work_words c.evolve_after-done.new.work_sums l.order c.evolve_after-done.new.heads c.evolve_after-done.new.nexts l.cand_words c.evolve_after-done.new.cand_sums c.evolve_after-done.new.place_order l.place_work l.list_words c.evolve_after-done.new.list_values c.evolve_after-done.new.stage_rows c.evolve_after-done.new.stage_columns c.evolve_after-done.new.columns c.evolve_after-done.new.values l.grown_words l.start c.evolve_after-done.new.evolved) (record { h_index = c.evolve_after-done.auto.h_index; j_index = c.evolve_after-done.auto.j_index; mask = c.evolve_after-done.auto.mask; work_words = c.evolve_after-done.auto.work_words; work_sums = c.evolve_after-done.auto.work_sums; order = refl; heads = c.evolve_after-done.auto.heads; nexts = c.evolve_after-done.auto.nexts; cand_words = refl; cand_sums = c.evolve_after-done.auto.cand_sums; place_order = c.evolve_after-done.auto.place_order; place_work = refl; list_words = refl; list_values = c.evolve_after-done.auto.list_values; stage_rows = c.evolve_after-done.auto.stage_rows; stage_columns = c.evolve_after-done.auto.stage_columns; columns = c.evolve_after-done.auto.columns; values = c.evolve_after-done.auto.values; grown_words = refl; start = refl; evolved = c.evolve_after-done.auto.evolved }) refl refl f (λ q o k at e g. v.ensures.1 q o k at e (ap (λ (x : ℕ). not (eqb u.result 2) && eqb k x) ee ∙ g)))

pub overflow_add-part-in-loop-part : goal.overflow_add-part-in-loop-part
overflow_add-part-in-loop-part c =
    let a = c.args in
    let t : ModelTables = model_tables a.h_words.now a.h_coeffs.now a.jumps.now a.rates.now a.t_words.now a.t_numbers.now in
    let s : Start = start_of a.model t a.words.now a.coeffs.now a.len a.protected.now a.limits a.dt a.drop_tol (work_of a.h_index.now a.j_index.now a.mask.now a.work_words.now a.work_sums.now a.order.now a.heads.now a.nexts.now a.cand_words.now a.cand_sums.now a.place_order.now a.place_work.now a.list_words.now a.list_values.now a.stage_rows.now a.stage_columns.now a.columns.now a.values.now a.grown_words.now a.start.now a.evolved.now) in
    let l = c.loop-part in
    let w : Work = work_of l.h_index l.j_index l.mask l.work_words l.work_sums l.order l.heads l.nexts l.cand_words l.cand_sums l.place_order l.place_work l.list_words l.list_values l.stage_rows l.stage_columns l.columns l.values l.grown_words l.start l.evolved in
    let below = c.loop-part-test.true in
    let n = c.word_limit-limit in
    let u = c.due_part-due in
    let d : Due s l.part u.result l.taken l.hopped w = due_stands s l.part l.taken l.hopped l.words l.coeffs w l.invariant below n.result u.result n.ensures u.ensures in
    let we : l.words ≡ s.lanes = l.invariant.lanes_stay below in
    let ce : l.coeffs ≡ s.coeffs = l.invariant.coeffs_stay below in
    search (d.below, rules)

pub loop-part-smaller : goal.loop-part-smaller
loop-part-smaller c =
    let a = c.args in
    let t : ModelTables = model_tables a.h_words.now a.h_coeffs.now a.jumps.now a.rates.now a.t_words.now a.t_numbers.now in
    let s : Start = start_of a.model t a.words.now a.coeffs.now a.len a.protected.now a.limits a.dt a.drop_tol (work_of a.h_index.now a.j_index.now a.mask.now a.work_words.now a.work_sums.now a.order.now a.heads.now a.nexts.now a.cand_words.now a.cand_sums.now a.place_order.now a.place_work.now a.list_words.now a.list_values.now a.stage_rows.now a.stage_columns.now a.columns.now a.values.now a.grown_words.now a.start.now a.evolved.now) in
    let l = c.loop-part in
    let w : Work = work_of l.h_index l.j_index l.mask l.work_words l.work_sums l.order l.heads l.nexts l.cand_words l.cand_sums l.place_order l.place_work l.list_words l.list_values l.stage_rows l.stage_columns l.columns l.values l.grown_words l.start l.evolved in
    let below = c.loop-part-test.true in
    let n = c.word_limit-limit in
    let u = c.due_part-due in
    let d : Due s l.part u.result l.taken l.hopped w = due_stands s l.part l.taken l.hopped l.words l.coeffs w l.invariant below n.result u.result n.ensures u.ensures in
    let we : l.words ≡ s.lanes = l.invariant.lanes_stay below in
    let ce : l.coeffs ≡ s.coeffs = l.invariant.coeffs_stay below in
    omega (arith, d.onward, below)

pub loop-part-preserved : goal.loop-part-preserved
loop-part-preserved c =
    let a = c.args in
    let t : ModelTables = model_tables a.h_words.now a.h_coeffs.now a.jumps.now a.rates.now a.t_words.now a.t_numbers.now in
    let s : Start = start_of a.model t a.words.now a.coeffs.now a.len a.protected.now a.limits a.dt a.drop_tol (work_of a.h_index.now a.j_index.now a.mask.now a.work_words.now a.work_sums.now a.order.now a.heads.now a.nexts.now a.cand_words.now a.cand_sums.now a.place_order.now a.place_work.now a.list_words.now a.list_values.now a.stage_rows.now a.stage_columns.now a.columns.now a.values.now a.grown_words.now a.start.now a.evolved.now) in
    let l = c.loop-part in
    let w : Work = work_of l.h_index l.j_index l.mask l.work_words l.work_sums l.order l.heads l.nexts l.cand_words l.cand_sums l.place_order l.place_work l.list_words l.list_values l.stage_rows l.stage_columns l.columns l.values l.grown_words l.start l.evolved in
    let below = c.loop-part-test.true in
    let p = c.grown_places-places in
    let n = c.word_limit-limit in
    let u = c.due_part-due in
    let d : Due s l.part u.result l.taken l.hopped w = due_stands s l.part l.taken l.hopped l.words l.coeffs w l.invariant below n.result u.result n.ensures u.ensures in
    let we : l.words ≡ s.lanes = l.invariant.lanes_stay below in
    let ce : l.coeffs ≡ s.coeffs = l.invariant.coeffs_stay below in
    let en = c.entries_of-entries in
    let not-hop = sym c.is_hop-hops.ensures ∙ c.if-hops.false in
    let pe : p.result ≡ grown_to s = p.ensures in
    let ee : en.result ≡ entries_in l.taken = en.ensures in
    let v = c.evolve_after-done in
    let f = subst (λ (k : ℕ). Follows l.hopped (eqb u.result 2) k v.result l.evolved c.evolve_after-done.new.evolved) ee v.ensures.0 in
    let y = c.add_products-taken in
    back s _ _ _ _ _ _ we ce
    (subst (λ (x : Result Step Refusal). Standing s (u.result + 1) x l.hopped s.lanes s.coeffs (work_of c.evolve_after-done.new.h_index c.evolve_after-done.new.j_index c.evolve_after-done.new.mask c.evolve_after-done.new.work_words c.evolve_after-done.new.work_sums l.order c.evolve_after-done.new.heads c.evolve_after-done.new.nexts l.cand_words c.evolve_after-done.new.cand_sums c.evolve_after-done.new.place_order l.place_work l.list_words c.evolve_after-done.new.list_values c.evolve_after-done.new.stage_rows c.evolve_after-done.new.stage_columns c.evolve_after-done.new.columns c.evolve_after-done.new.values l.grown_words l.start c.evolve_after-done.new.evolved)) (sym y.ensures)
    (evolve_stands s u.result l.taken l.hopped w d.stands d.below c.if-due-eq0.false c.if-due-eq5.false not-hop (eqb u.result 2) refl v.result (work_of c.evolve_after-done.new.h_index c.evolve_after-done.new.j_index c.evolve_after-done.new.mask c.evolve_after-done.new.work_words c.evolve_after-done.new.work_sums l.order c.evolve_after-done.new.heads c.evolve_after-done.new.nexts l.cand_words c.evolve_after-done.new.cand_sums c.evolve_after-done.new.place_order l.place_work l.list_words c.evolve_after-done.new.list_values c.evolve_after-done.new.stage_rows c.evolve_after-done.new.stage_columns c.evolve_after-done.new.columns c.evolve_after-done.new.values l.grown_words l.start c.evolve_after-done.new.evolved) (record { h_index = c.evolve_after-done.auto.h_index; j_index = c.evolve_after-done.auto.j_index; mask = c.evolve_after-done.auto.mask; work_words = c.evolve_after-done.auto.work_words; work_sums = c.evolve_after-done.auto.work_sums; order = refl; heads = c.evolve_after-done.auto.heads; nexts = c.evolve_after-done.auto.nexts; cand_words = refl; cand_sums = c.evolve_after-done.auto.cand_sums; place_order = c.evolve_after-done.auto.place_order; place_work = refl; list_words = refl; list_values = c.evolve_after-done.auto.list_values; stage_rows = c.evolve_after-done.auto.stage_rows; stage_columns = c.evolve_after-done.auto.stage_columns; columns = c.evolve_after-done.auto.columns; values = c.evolve_after-done.auto.values; grown_words = refl; start = refl; evolved = c.evolve_after-done.auto.evolved }) refl refl f (λ q o k at e g. v.ensures.1 q o k at e (ap (λ (x : ℕ). not (eqb u.result 2) && eqb k x) ee ∙ g)) v.ensures.2 v.ensures.3 v.ensures.4 v.ensures.5 v.ensures.6 v.ensures.7 v.ensures.8 v.ensures.9 v.ensures.10 v.ensures.11 refl refl refl refl))

pub returns : goal.returns
returns c =
    let a = c.args in
    let t : ModelTables = model_tables a.h_words.now a.h_coeffs.now a.jumps.now a.rates.now a.t_words.now a.t_numbers.now in
    let s : Start = start_of a.model t a.words.now a.coeffs.now a.len a.protected.now a.limits a.dt a.drop_tol (work_of a.h_index.now a.j_index.now a.mask.now a.work_words.now a.work_sums.now a.order.now a.heads.now a.nexts.now a.cand_words.now a.cand_sums.now a.place_order.now a.place_work.now a.list_words.now a.list_values.now a.stage_rows.now a.stage_columns.now a.columns.now a.values.now a.grown_words.now a.start.now a.evolved.now) in
    let l = c.loop-part in
    let w : Work = work_of l.h_index l.j_index l.mask l.work_words l.work_sums l.order l.heads l.nexts l.cand_words l.cand_sums l.place_order l.place_work l.list_words l.list_values l.stage_rows l.stage_columns l.columns l.values l.grown_words l.start l.evolved in
    leaves_step s l.part l.taken l.hopped l.words l.coeffs w l.invariant c.loop-part-test.false c.from-2.result c.from-2.ensures
