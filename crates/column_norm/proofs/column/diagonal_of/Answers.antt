-- SPDX-FileCopyrightText: 2026 The PPVM Authors
-- SPDX-License-Identifier: Apache-2.0

-- `column::diagonal_of` meets its contract. Assumes nothing.
use mathlib.Core.Path.{sym, ◌∙◌}
use Rattle.model.specs.Between.{onto}
use Rattle.column_norm.proofs.ColumnLaws.{diag_passes, diag_found, diag_other, diag_none}
use Rattle.column_norm.proofs.column.diagonal_of.Goals as goal

pub loop-i-preserved-then-is_zero : goal.loop-i-preserved-then-is_zero
loop-i-preserved-then-is_zero c =
    let l = c.loop-i in
    diag_passes c.args.len c.args.words.now c.args.sums.now c.requires.0 c.requires.1 l.i c.loop-i-test.true (onto c.term_at-t.result) c.term_at-t.ensures (sym c.is_zero.ensures ∙ c.if-is_zero.true) c.args.w l.invariant

pub returns-then-same_word : goal.returns-then-same_word
returns-then-same_word c =
    let l = c.loop-i in
    diag_found c.args.len c.args.words.now c.args.sums.now c.requires.0 c.requires.1 l.i c.loop-i-test.true (onto c.term_at-t.result) c.term_at-t.ensures (sym c.is_zero.ensures ∙ c.if-is_zero.false) c.args.w l.invariant (sym c.same_word.ensures ∙ c.if-same_word.true)

pub loop-i-preserved : goal.loop-i-preserved
loop-i-preserved c =
    let l = c.loop-i in
    diag_other c.args.len c.args.words.now c.args.sums.now c.requires.0 c.requires.1 l.i c.loop-i-test.true (onto c.term_at-t.result) c.term_at-t.ensures (sym c.is_zero.ensures ∙ c.if-is_zero.false) c.args.w l.invariant (sym c.same_word.ensures ∙ c.if-same_word.false)

pub returns : goal.returns
returns c =
    let l = c.loop-i in
    diag_none c.args.len c.args.words.now c.args.sums.now c.requires.0 c.requires.1 l.i c.loop-i-test.false c.args.w l.invariant
