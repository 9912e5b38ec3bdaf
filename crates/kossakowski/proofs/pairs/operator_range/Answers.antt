-- SPDX-FileCopyrightText: 2026 The PPVM Authors
-- SPDX-License-Identifier: Apache-2.0

-- `pairs::operator_range` meets its contract. Assumes nothing.
use mathlib.Core.Path.{◌≡◌, ap, ◌∙◌}
use Prim.Native.Nat.{ℕ, ◌+◌, ◌-◌}
use lib.ListN.{get_or, take}
use Rattle.lent.specs.Laid.{total}
use Rattle.model.specs.Stored.{range}
use Rattle.kossakowski.proofs.PairsLaws.{range_fits}
use native.Mathlib.Omega.{arith}
use Rattle.kossakowski.proofs.pairs.operator_range.Goals as goal

pub sum_of-requires : goal.sum_of-requires
sum_of-requires c =
    let a = c.args in
    let e : total (take (a.n - 0) a.counts.now) ≡ total (take a.n a.counts.now) = let d : a.n - 0 ≡ a.n = omega arith in ap (λ (m : ℕ). total (take m a.counts.now)) d in
    omega (arith, e, range_fits a.counts.now a.n c.requires.1, c.requires.0)

pub overflow_add-start : goal.overflow_add-start
overflow_add-start c =
    let a = c.args in
    let e : total (take (a.n - 0) a.counts.now) ≡ total (take a.n a.counts.now) = let d : a.n - 0 ≡ a.n = omega arith in ap (λ (m : ℕ). total (take m a.counts.now)) d in
    omega (arith, c.sum_of.ensures, e, range_fits a.counts.now a.n c.requires.1, c.requires.0)

pub overflow_add-result : goal.overflow_add-result
overflow_add-result c =
    let a = c.args in
    let e : total (take (a.n - 0) a.counts.now) ≡ total (take a.n a.counts.now) = let d : a.n - 0 ≡ a.n = omega arith in ap (λ (m : ℕ). total (take m a.counts.now)) d in
    omega (arith, c.sum_of.ensures, e, range_fits a.counts.now a.n c.requires.1, c.requires.0)

pub returns : goal.returns
returns c =
    let a = c.args in
    let e : total (take (a.n - 0) a.counts.now) ≡ total (take a.n a.counts.now) = let d : a.n - 0 ≡ a.n = omega arith in ap (λ (m : ℕ). total (take m a.counts.now)) d in
    ap (λ (t : ℕ). range (a.from + t) (a.from + t + get_or a.counts.now a.n 0)) (c.sum_of.ensures ∙ e)
