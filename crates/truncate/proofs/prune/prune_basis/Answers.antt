-- SPDX-FileCopyrightText: 2026 The PPVM Authors
-- SPDX-License-Identifier: Apache-2.0

-- `prune::prune_basis` meets its contract. Assumes nothing.
use mathlib.Core.Path.{sym, ap, ◌∙◌}
use Prim.Native.Nat.{ℕ}
use lib.ListN.{replicate}
use Rattle.refusal.proofs.Told.{handed_on}
use Rattle.truncate.proofs.PruneLaws.{prune_refused, prune_room, prune_answered}
use Rattle.truncate.proofs.prune.prune_basis.Goals as goal

pub drop_small-entries-requires : goal.drop_small-entries-requires
drop_small-entries-requires c =
    let a = c.args in
    let h = prune_room a.len a.words.now a.coeffs.now a.order.now a.work.now a.fixed.now a.kept.now a.n a.protected.now a.drop_tol (sym c.check_prune.ensures ∙ c.in_ok-check_prune.was) in
    (h.lanes_room, h.coeffs_room, h.protected_whole, h.order_protected, h.work_protected, h.fixed_room, h.kept_room)

pub returns : goal.returns
returns c =
    let a = c.args in
    let q = c.drop_small-entries in
    prune_answered a.len a.words.now a.coeffs.now a.order.now a.work.now a.fixed.now a.kept.now a.n a.protected.now a.drop_tol (sym c.check_prune.ensures ∙ c.in_ok-check_prune.was) q.result q.new.words q.new.coeffs _ _ _ _ q.ensures
    (c.clear_lanes.ensures ∙ ap (λ (m : ℕ). replicate m 0) q.auto.order)
    (c.clear_lanes-2.ensures ∙ ap (λ (m : ℕ). replicate m 0) q.auto.work)
    (c.clear_lanes-3.ensures ∙ ap (λ (m : ℕ). replicate m 0) q.auto.list)
    (c.clear_lanes-4.ensures ∙ ap (λ (m : ℕ). replicate m 0) q.auto.kept)

pub returns-in_err-check_prune : goal.returns-in_err-check_prune
returns-in_err-check_prune c =
    let a = c.args in
    rw (handed_on _ _ c.from_residual.ensures.1) (prune_refused a.len a.words.now a.coeffs.now a.order.now a.work.now a.fixed.now a.kept.now a.n a.protected.now a.drop_tol _ (sym c.check_prune.ensures ∙ c.in_err-check_prune.was))
