-- SPDX-FileCopyrightText: 2026 The PPVM Authors
-- SPDX-License-Identifier: Apache-2.0

-- `passes::take_passes` meets its contract: after each pass, those that are left give the answer of all. Assumes nothing.
use mathlib.Core.Path.{refl, ◌∙◌}
use Prim.Native.Nat.{ℕ, ◌-◌, ◌<◌}
use native.Mathlib.Omega.{arith}
use lib.ListN.{length, drop}
use Rattle.refusal.proofs.Told.{handed_on}
use Rattle.word.specs.Flat.{words as words_in}
use Rattle.order.proofs.Members.{all_take, all_drop}
use Rattle.candidates.specs.Tables.{Rows}
use Rattle.model.specs.Stored.{ModelTables}
use Rattle.model.specs.Between.{model_tables}
use Rattle.passes.specs.Leaks.{touched_at, leaks_at}
use Rattle.passes.proofs.PassesLaws.{ready_still, action_room_still, first_rest, pass_refused, end_refused, end_held, passes_end}
use Rattle.passes.proofs.passes.take_passes.Goals as goal
use Rattle.passes.proofs.passes.take_passes.Goals.{Start}

-- ---- the model and the basis
abbrev stored : Start → ModelTables
stored s = let a = s.args in model_tables a.h_words.now a.h_coeffs.now a.jumps.now a.rates.now a.t_words.now a.t_numbers.now

abbrev touches : Start → ℕ → ℕ
touches s = let a = s.args in touched_at a.m (stored s) (words_in a.basis.now) a.coeffs.now (words_in a.protected.now)

abbrev leaks : Start → ℕ → Rows
leaks s = let a = s.args in leaks_at a.m (stored s) (words_in a.basis.now) a.coeffs.now (words_in a.protected.now)

pub loop-from-init : goal.loop-from-init
loop-from-init c =
    let s = (goal.at.loop-from-init c).Start in
    let a = c.args in
    (first_rest (touches s) (leaks s) a.sum_room a.candidate_room a.room a.positions.now a.words.now a.sums.now, c.requires.standing, refl, refl, refl, refl, refl, refl, refl)

pub take_pass-requires : goal.take_pass-requires
take_pass-requires c =
    let l = c.loop-from in
    let s = (goal.at.take_pass-requires c).Start in
    let a = c.args in
    let i = l.invariant in
    let w : 0 < length a.positions.now = omega (arith, c.loop-from-test.true) in record {
      model_ready = ready_still a.m (stored s) a.h_index.now a.j_index.now a.mask.now l.mask (c.requires.model_ready w) i.2;
      basis_ready = ((c.requires.basis_ready w).0, all_take (λ x. x < length a.coeffs.now) (c.smaller-to.result - l.from) (drop l.from a.positions.now) (all_drop (λ x. x < length a.coeffs.now) l.from a.positions.now (c.requires.basis_ready w).1));
      action_room = action_room_still a.sum_room a.work_words.now l.work_words a.work_sums.now l.work_sums c.requires.action_room i.3 i.4;
      standing = i.1;
    }

pub returns-in_err-n : goal.returns-in_err-n
returns-in_err-n c =
    let l = c.loop-from in
    let s = (goal.at.returns-in_err-n c).Start in
    let a = c.args in
    rw (handed_on _ _ c.from_residual.ensures.1)
    (pass_refused (touches s) (leaks s) a.sum_room a.candidate_room a.room a.positions.now _ l.from _ _ l.invariant.0 c.smaller-to.ensures c.loop-from-test.true _ _ _ _ _ c.take_pass.ensures _ c.in_err-n.was)

pub end_pass-requires : goal.end_pass-requires
end_pass-requires c = (c.take_pass.ensures.held _ c.in_ok-n.was).0

pub returns-in_err-held : goal.returns-in_err-held
returns-in_err-held c =
    let l = c.loop-from in
    let s = (goal.at.returns-in_err-held c).Start in
    let a = c.args in
    rw (handed_on _ _ c.from_residual-in_err-held.ensures.1)
    (end_refused (touches s) (leaks s) a.sum_room a.candidate_room a.room a.positions.now _ l.from _ _ l.invariant.0 c.smaller-to.ensures c.loop-from-test.true _ _ _ _ _ c.take_pass.ensures _ c.in_ok-n.was _ _ _ _ _ c.end_pass.ensures _ c.in_err-held.was)

pub loop-from-preserved : goal.loop-from-preserved
loop-from-preserved c =
    let l = c.loop-from in
    let s = (goal.at.loop-from-preserved c).Start in
    let a = c.args in
    let k = end_held (touches s) (leaks s) a.sum_room a.candidate_room a.room a.positions.now _ l.from _ _ l.invariant.0 c.smaller-to.ensures c.loop-from-test.true _ _ _ _ _ c.take_pass.ensures _ c.in_ok-n.was _ _ _ _ _ c.end_pass.ensures _ c.in_ok-held.was in (
      k.0,
      k.1,
      c.take_pass.auto.mask ∙ l.invariant.2,
      c.take_pass.auto.work_words ∙ l.invariant.3,
      c.take_pass.auto.work_sums ∙ l.invariant.4,
      c.end_pass.auto.words ∙ c.take_pass.auto.words ∙ l.invariant.5,
      c.end_pass.auto.sums ∙ c.take_pass.auto.sums ∙ l.invariant.6,
      c.end_pass.auto.order ∙ c.take_pass.auto.order ∙ l.invariant.7,
      c.end_pass.auto.work ∙ c.take_pass.auto.work ∙ l.invariant.8,
    )

pub returns : goal.returns
returns c =
    let l = c.loop-from in
    let s = (goal.at.returns c).Start in
    let a = c.args in
    passes_end (touches s) (leaks s) a.sum_room a.candidate_room a.room a.positions.now _ l.from l.held l.words l.sums l.order l.work l.invariant.0 c.loop-from-test.false l.invariant.1
