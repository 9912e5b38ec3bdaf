-- SPDX-FileCopyrightText: 2026 The PPVM Authors
-- SPDX-License-Identifier: Apache-2.0

-- `finish::truncate_grown` meets its contract: prune and cap pass their tests. Assumes nothing.
use Rattle.step_parts.proofs.TruncateLaws.{prune_not, cap_not, truncates, order_clear, heads_clear, nexts_clear, places_clear}
use Rattle.step_parts.proofs.finish.truncate_grown.Goals as goal

pub returns-in_default : goal.returns-in_default
returns-in_default c =
    let a = c.args in
    let p = c.prune_basis-pruned in
    absurd (prune_not a.n a.protected.now a.drop_tol a.max_basis a.len a.grown_words.now a.evolved.now a.order.now a.heads.now a.nexts.now a.place_order.now c.requires p.result p.new.words p.new.coeffs p.new.order p.new.work p.new.fixed p.new.kept p.ensures _ c.in_default.is)

pub returns-in_default-capped : goal.returns-in_default-capped
returns-in_default-capped c =
    let a = c.args in
    let p = c.prune_basis-pruned in
    let q = c.cap_basis-capped in
    absurd (cap_not a.n a.protected.now a.drop_tol a.max_basis a.len a.grown_words.now a.evolved.now a.order.now a.heads.now a.nexts.now a.place_order.now c.requires p.result p.new.words p.new.coeffs p.new.order p.new.work p.new.fixed p.new.kept p.ensures _ c.in-Ok.is q.result q.new.words q.new.coeffs q.new.order q.new.work q.new.fixed q.new.kept q.ensures _ c.in_default-capped.is)

pub returns : goal.returns
returns c =
    let a = c.args in
    let p = c.prune_basis-pruned in
    let q = c.cap_basis-capped in (
      (λ products. truncates a.n a.protected.now a.drop_tol a.max_basis a.len a.grown_words.now a.evolved.now a.order.now a.heads.now a.nexts.now a.place_order.now c.requires p.result p.new.words p.new.coeffs p.new.order p.new.work p.new.fixed p.new.kept p.ensures _ c.in-Ok.is q.result q.new.words q.new.coeffs q.new.order q.new.work q.new.fixed q.new.kept q.ensures _ c.in-Ok-capped.is products),
      order_clear a.n a.protected.now a.drop_tol a.max_basis a.len a.grown_words.now a.evolved.now a.order.now a.heads.now a.nexts.now a.place_order.now c.requires p.result p.new.words p.new.coeffs p.new.order p.new.work p.new.fixed p.new.kept p.ensures _ c.in-Ok.is q.result q.new.words q.new.coeffs q.new.order q.new.work q.new.fixed q.new.kept q.ensures,
      heads_clear a.n a.protected.now a.drop_tol a.max_basis a.len a.grown_words.now a.evolved.now a.order.now a.heads.now a.nexts.now a.place_order.now c.requires p.result p.new.words p.new.coeffs p.new.order p.new.work p.new.fixed p.new.kept p.ensures _ c.in-Ok.is q.result q.new.words q.new.coeffs q.new.order q.new.work q.new.fixed q.new.kept q.ensures,
      nexts_clear a.n a.protected.now a.drop_tol a.max_basis a.len a.grown_words.now a.evolved.now a.order.now a.heads.now a.nexts.now a.place_order.now c.requires p.result p.new.words p.new.coeffs p.new.order p.new.work p.new.fixed p.new.kept p.ensures _ c.in-Ok.is q.result q.new.words q.new.coeffs q.new.order q.new.work q.new.fixed q.new.kept q.ensures,
      places_clear a.n a.protected.now a.drop_tol a.max_basis a.len a.grown_words.now a.evolved.now a.order.now a.heads.now a.nexts.now a.place_order.now c.requires p.result p.new.words p.new.coeffs p.new.order p.new.work p.new.fixed p.new.kept p.ensures _ c.in-Ok.is q.result q.new.words q.new.coeffs q.new.order q.new.work q.new.fixed q.new.kept q.ensures,
    )
