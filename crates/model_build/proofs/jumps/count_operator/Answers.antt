-- SPDX-FileCopyrightText: 2026 The PPVM Authors
-- SPDX-License-Identifier: Apache-2.0

-- `jumps::count_operator` meets its contract. Assumes nothing.
use mathlib.Core.Path.{sym, ap, ◌∙◌}
use Prim.Native.Nat.{◌+◌}
use Rattle.model_build.proofs.OperatorLaws.{count_pauli, sums_few, stored_few, count_general}
use native.Mathlib.Omega.{arith}
use Rattle.model_build.proofs.jumps.count_operator.Goals as goal

pub returns-then-is_pauli : goal.returns-then-is_pauli
returns-then-is_pauli c = let a = c.args in (count_pauli a.k a.words.now a.sums.now c.requires (sym c.is_pauli.ensures ∙ c.if-is_pauli.true), omega arith)

pub count_kept-requires : goal.count_kept-requires
count_kept-requires c =
    let a = c.args in
    let p = c.precompute_adag_b-count in
    let f = sums_few a.k a.words.now a.sums.now c.requires p.result _ _ p.ensures in
    (omega (arith, f, p.auto.words, c.requires.lanes_long), omega (arith, f, p.auto.numbers, c.requires.numbers_long))

pub overflow_add-result : goal.overflow_add-result
overflow_add-result c =
    let a = c.args in
    let p = c.precompute_adag_b-count in
    omega (arith, c.count_kept.ensures, stored_few a.k a.words.now a.sums.now c.requires p.result _ _ p.ensures)

pub returns : goal.returns
returns c =
    let a = c.args in
    let p = c.precompute_adag_b-count in
    (ap (◌+◌ a.k) c.count_kept.ensures ∙ count_general a.k a.words.now a.sums.now c.requires p.result _ _ p.ensures (sym c.is_pauli.ensures ∙ c.if-is_pauli.false), omega (arith, c.count_kept.ensures, stored_few a.k a.words.now a.sums.now c.requires p.result _ _ p.ensures))
