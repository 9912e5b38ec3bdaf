-- SPDX-FileCopyrightText: 2026 The PPVM Authors
-- SPDX-License-Identifier: Apache-2.0

-- `pairs::count_pair` meets its contract. Assumes nothing.
use mathlib.Core.Path.{sym, ap, subst}
use Prim.Native.Nat.{ℕ, ◌+◌, ◌-◌, ◌*◌}
use Rattle.k_matrix.specs.Work.{CountsPair}
use Rattle.model.specs.Terms.{terms_of}
use Rattle.kossakowski.proofs.PairLaws.{many_few, product_few, pair_counted, work_stays}
use native.Mathlib.Omega.{arith}
use Rattle.kossakowski.proofs.pairs.count_pair.Goals as goal

pub overflow_mul-result : goal.overflow_mul-result
overflow_mul-result c = let a = c.args in omega (arith, many_few a.left a.right a.words.now a.sums.now c.requires)

pub count_kept-requires : goal.count_kept-requires
count_kept-requires c =
    let a = c.args in
    let h = c.requires in
    let p = c.precompute_adag_b-count in
    let f = product_few a.left a.right a.words.now a.sums.now h p.result _ _ p.ensures in
    (omega (arith, f, p.auto.words, h.lanes_long.0, h.left_past, h.left_order), omega (arith, f, p.auto.numbers, h.numbers_long.0, h.left_past, h.left_order))

pub overflow_add-result : goal.overflow_add-result
overflow_add-result c =
    let a = c.args in
    let p = c.precompute_adag_b-count in
    omega (arith, c.count_kept.ensures, (pair_counted a.left a.right a.words.now a.sums.now c.requires p.result _ _ p.ensures).few)

pub returns : goal.returns
returns c =
    let a = c.args in
    let p = c.precompute_adag_b-count in
    let n : ℕ = (a.left.end - a.left.start) * (a.right.end - a.right.start) in (
      subst (λ (r : ℕ). CountsPair (terms_of a.words.now a.sums.now a.left) (terms_of a.words.now a.sums.now a.right) r) (ap (◌+◌ n) (sym c.count_kept.ensures))
          (pair_counted a.left a.right a.words.now a.sums.now c.requires p.result _ _ p.ensures),
      work_stays a.left a.right a.words.now a.sums.now c.requires p.result _ _ p.ensures,
    )
