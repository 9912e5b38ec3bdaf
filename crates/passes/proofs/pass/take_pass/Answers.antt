-- SPDX-FileCopyrightText: 2026 The PPVM Authors
-- SPDX-License-Identifier: Apache-2.0

-- `pass::take_pass` meets its contract: what stands, with the positions that are left, gives the whole. Assumes nothing.
use mathlib.Core.Path.{refl, ◌∙◌}
use Prim.Native.Nat.{ℕ, ◌≤◌, ◌<◌}
use native.Mathlib.Omega.{arith}
use lib.ListN.{length, get_or}
use Rattle.word.specs.Flat.{words as words_in}
use Rattle.candidates.specs.Tables.{Rows}
use Rattle.order.proofs.Members.{all_at}
use Rattle.model.specs.Stored.{ModelTables}
use Rattle.action.proofs.ActLaws.{empty_room, sums_full, sums_held, listed_are, sums_inside}
use Rattle.lent.proofs.WordLaws.{word_inside}
use Rattle.passes.specs.Leaks.{touched_at, leaks_at}
use Rattle.passes.proofs.PassLaws.{passing_end, passing_full, passing_stopped, passing_next, leaks_are}
use Rattle.model.specs.Between.{model_tables}
use Rattle.passes.proofs.pass.take_pass.Goals as goal
use Rattle.passes.proofs.pass.take_pass.Goals.{After-put_terms-put, At-loop-i, In-loop-i, Start}

-- ---- where the steps of a turn stand
abbrev start_of : At-loop-i → Start
start_of c = (goal.at.At-loop-i c).Start

abbrev stored : Start → ModelTables
stored s = let a = s.args in model_tables a.h_words.now a.h_coeffs.now a.jumps.now a.rates.now a.t_words.now a.t_numbers.now

abbrev touches : Start → ℕ → ℕ
touches s = let a = s.args in touched_at a.m (stored s) (words_in a.basis.now) a.coeffs.now (words_in a.protected.now)

abbrev leaks : Start → ℕ → Rows
leaks s = let a = s.args in leaks_at a.m (stored s) (words_in a.basis.now) a.coeffs.now (words_in a.protected.now)

in_coeffs : (c : In-loop-i) → get_or (start_of (goal.at.In-loop-i c).At-loop-i).args.positions.now c.loop-i.i 0 < length (start_of (goal.at.In-loop-i c).At-loop-i).args.coeffs.now
in_coeffs c = let s = start_of (goal.at.In-loop-i c).At-loop-i in all_at (λ x. x < length s.args.coeffs.now) s.args.positions.now c.loop-i.i s.requires.basis_ready.1 c.loop-i-test.true

-- ---- what the action on one position adds
-- it finds room
fits : (c : After-put_terms-put) → let s = (goal.at.After-put_terms-put c).Start in touches s (get_or c.args.positions.now c.loop-i.i 0) ≤ c.args.sum_room
fits c =
    let s = (goal.at.After-put_terms-put c).Start in
    let a = c.args in
    let l = c.loop-i in
    let w = c.word_at-w in
    rw w.ensures at (sums_held a.m (stored s) w.result a.sum_room l.work_words l.work_sums _ _ _ c.put_rules_near-added.ensures _ c.in-Some.is).1

pub word_at-w-requires : goal.word_at-w-requires
word_at-w-requires c = omega (arith, in_coeffs (goal.at.word_at-w-requires c).In-loop-i, c.requires.basis_ready.0.each)

pub put_rules_near-added-requires : goal.put_rules_near-added-requires
put_rules_near-added-requires c =
    let a = c.args in
    let l = c.loop-i in
    let h = c.requires in (
      empty_room a.sum_room l.work_words l.work_sums (omega (arith, h.action_room.work_words, l.invariant.2)) (omega (arith, h.action_room.work_sums, l.invariant.3)),
      h.model_ready.tested,
      h.model_ready.indexed,
      h.model_ready.h_rows,
      h.model_ready.j_rows,
      omega (arith, h.model_ready.row, l.invariant.1),
      word_inside a.basis.now a.m.qubits h.basis_ready.0.inside (get_or a.positions.now l.i 0) (omega (arith, in_coeffs (goal.at.put_rules_near-added-requires c).In-loop-i, h.basis_ready.0.each)) c.word_at-w.ensures,
    )

pub returns-in_default : goal.returns-in_default
returns-in_default c =
    let s = (goal.at.returns-in_default c).Start in
    let a = c.args in
    let l = c.loop-i in
    let q = c.put_rules_near-added in
    let w = c.word_at-w in
    let p : ℕ = get_or a.positions.now l.i 0 in
    let full : a.sum_room < touches s p = rw w.ensures at (sums_full a.m (stored s) w.result a.sum_room l.work_words l.work_sums _ _ _ q.ensures c.in_default.is) in
    passing_stopped (touches s) (leaks s) a.sum_room a.room a.positions.now _ l.i l.held l.words l.sums l.order l.work l.invariant.0 c.loop-i-test.true p refl l.words l.sums l.order l.work full

pub offset_bounds-coeffs-p : goal.offset_bounds-coeffs-p
offset_bounds-coeffs-p c = omega (arith, c.well_formed.1.1.1.1.1.1.1.1.1.1.1.1.1.1.0, in_coeffs (goal.at.offset_bounds-coeffs-p c).In-loop-i)

pub bounds-coeffs-p : goal.bounds-coeffs-p
bounds-coeffs-p c = in_coeffs (goal.at.bounds-coeffs-p c).In-loop-i

pub put_terms-put-requires : goal.put_terms-put-requires
put_terms-put-requires c =
    let s = (goal.at.put_terms-put-requires c).Start in
    let a = c.args in
    let l = c.loop-i in
    let q = c.put_rules_near-added in
    let k = sums_inside a.m (stored s) c.word_at-w.result a.sum_room l.work_words l.work_sums _ _ _ q.ensures _ c.in-Some.is q.auto.lanes q.auto.sums (omega (arith, c.requires.action_room.work_words, l.invariant.2)) (omega (arith, c.requires.action_room.work_sums, l.invariant.3)) in
    (k.0, k.1, c.requires.basis_ready.0.slots, l.invariant.0.stands)

pub returns-in_default-put : goal.returns-in_default-put
returns-in_default-put c =
    let s = (goal.at.returns-in_default-put c).Start in
    let a = c.args in
    let l = c.loop-i in
    let w = c.word_at-w in
    let g = c.put_terms-put in
    let p : ℕ = get_or a.positions.now l.i 0 in
    let listed = listed_are a.m (stored s) w.result a.sum_room l.work_words l.work_sums _ _ _ c.put_rules_near-added.ensures _ c.in-Some.is in
    passing_full (touches s) (leaks s) a.sum_room a.room a.positions.now _ l.i l.held l.words l.sums l.order l.work l.invariant.0 c.loop-i-test.true p refl (fits (goal.at.returns-in_default-put c).After-put_terms-put) _ _ _ _ g.result
    (rw (leaks_are a.m (stored s) (words_in a.basis.now) a.coeffs.now (words_in a.protected.now) p w.result _ w.ensures listed) at g.ensures) c.in_default-put.is

pub loop-i-preserved : goal.loop-i-preserved
loop-i-preserved c =
    let s = (goal.at.loop-i-preserved c).Start in
    let a = c.args in
    let l = c.loop-i in
    let q = c.put_rules_near-added in
    let w = c.word_at-w in
    let g = c.put_terms-put in
    let p : ℕ = get_or a.positions.now l.i 0 in
    let listed = listed_are a.m (stored s) w.result a.sum_room l.work_words l.work_sums _ _ _ q.ensures _ c.in-Some.is in (
      passing_next (touches s) (leaks s) a.sum_room a.room a.positions.now _ l.i l.held l.words l.sums l.order l.work l.invariant.0 c.loop-i-test.true p refl (fits (goal.at.loop-i-preserved c).After-put_terms-put) _ _ _ _ g.result
          (rw (leaks_are a.m (stored s) (words_in a.basis.now) a.coeffs.now (words_in a.protected.now) p w.result _ w.ensures listed) at g.ensures) _ c.in-Some-put.is,
      q.auto.mask ∙ l.invariant.1,
      q.auto.lanes ∙ l.invariant.2,
      q.auto.sums ∙ l.invariant.3,
      g.auto.words ∙ l.invariant.4,
      g.auto.sums ∙ l.invariant.5,
      g.auto.order ∙ l.invariant.6,
      g.auto.work ∙ l.invariant.7,
    )

pub returns : goal.returns
returns c =
    let s = (goal.at.returns c).Start in
    let a = c.args in
    let l = c.loop-i in
    passing_end (touches s) (leaks s) a.sum_room a.room a.positions.now _ l.i l.held l.words l.sums l.order l.work l.invariant.0 c.loop-i-test.false
