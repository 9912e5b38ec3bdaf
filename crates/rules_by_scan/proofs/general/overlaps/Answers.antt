-- SPDX-FileCopyrightText: 2026 The PPVM Authors
-- SPDX-License-Identifier: Apache-2.0

-- `general::overlaps` meets its contract: none of the terms so far shares a qubit with p. Assumes nothing.
use mathlib.Core.Path.{sym, ◌∙◌}
use Rattle.rules_by_scan.proofs.GeneralLaws.{none_start, none_next, one_found}
use Rattle.rules_by_scan.proofs.general.overlaps.Goals as goal

pub loop-i-init : goal.loop-i-init
loop-i-init c = let a = c.args in none_start a.words.now a.range a.p c.requires.0 c.requires.1

pub returns-then-shares_qubit : goal.returns-then-shares_qubit
returns-then-shares_qubit c =
    let a = c.args in
    let l = c.loop-i in
    one_found a.words.now a.range a.p c.requires.0 c.requires.1 l.i l.invariant c.loop-i-test.true c.word_at.result c.word_at.ensures (sym c.shares_qubit.ensures ∙ c.if-shares_qubit.true)

pub loop-i-preserved : goal.loop-i-preserved
loop-i-preserved c =
    let a = c.args in
    let l = c.loop-i in
    none_next a.words.now a.range a.p c.requires.0 c.requires.1 l.i l.invariant c.loop-i-test.true c.word_at.result c.word_at.ensures (sym c.shares_qubit.ensures ∙ c.if-shares_qubit.false)
