-- SPDX-FileCopyrightText: 2026 The PPVM Authors
-- SPDX-License-Identifier: Apache-2.0

-- `cap::cap_basis` meets its contract. Assumes nothing.
use mathlib.Core.Path.{sym, ap, ◌∙◌}
use Prim.Native.Nat.{ℕ}
use lib.ListN.{replicate}
use Rattle.refusal.proofs.Told.{handed_on}
use Rattle.truncate.proofs.CapLaws.{cap_refused, cap_room, cap_finite, cap_answered}
use Rattle.truncate.proofs.ChecksLaws.{front_finite}
use Rattle.truncate.proofs.cap.cap_basis.Goals as goal

pub keep_largest-entries-requires : goal.keep_largest-entries-requires
keep_largest-entries-requires c =
    let a = c.args in
    let ok = sym c.check_cap.ensures ∙ c.in_ok-check_cap.was in
    let h = cap_room a.len a.words.now a.coeffs.now a.order.now a.work.now a.fixed.now a.kept.now a.n a.protected.now a.limit ok in
    let f = cap_finite a.len a.words.now a.coeffs.now a.order.now a.work.now a.fixed.now a.kept.now a.n a.protected.now a.limit ok in
    (h.lanes_room, h.coeffs_room, h.protected_whole, h.order_protected, h.work_protected, h.order_entries, h.fixed_room, h.kept_room, front_finite a.len a.coeffs.now h.coeffs_room f)

pub returns : goal.returns
returns c =
    let a = c.args in
    let q = c.keep_largest-entries in
    cap_answered a.len a.words.now a.coeffs.now a.order.now a.work.now a.fixed.now a.kept.now a.n a.protected.now a.limit (sym c.check_cap.ensures ∙ c.in_ok-check_cap.was) q.result q.new.words q.new.coeffs _ _ _ _ q.ensures
    (c.clear_lanes.ensures ∙ ap (λ (m : ℕ). replicate m 0) q.auto.order)
    (c.clear_lanes-2.ensures ∙ ap (λ (m : ℕ). replicate m 0) q.auto.work)
    (c.clear_lanes-3.ensures ∙ ap (λ (m : ℕ). replicate m 0) q.auto.fixed)
    (c.clear_lanes-4.ensures ∙ ap (λ (m : ℕ). replicate m 0) q.auto.kept)

pub returns-in_err-check_cap : goal.returns-in_err-check_cap
returns-in_err-check_cap c =
    let a = c.args in
    rw (handed_on _ _ c.from_residual.ensures.1) (cap_refused a.len a.words.now a.coeffs.now a.order.now a.work.now a.fixed.now a.kept.now a.n a.protected.now a.limit _ (sym c.check_cap.ensures ∙ c.in_err-check_cap.was))
