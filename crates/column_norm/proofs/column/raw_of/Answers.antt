-- SPDX-FileCopyrightText: 2026 The PPVM Authors
-- SPDX-License-Identifier: Apache-2.0

-- `column::raw_of` meets its contract: before each sum, what is added so far beside what is left. Assumes nothing.
use mathlib.Core.Path.{sym, ◌∙◌}
use lib.ListN.{take}
use Rattle.word.specs.Flat.{words}
use Rattle.model.specs.Between.{onto}
use Rattle.column_norm.proofs.ColumnLaws.{raw_start, raw_passes, raw_adds, raw_leaves, raw_done}
use Rattle.column_norm.proofs.column.raw_of.Goals as goal
use Rattle.column_norm.proofs.column.raw_of.Goals.{then-in_basis, else-in_basis}

pub loop-i-init : goal.loop-i-init
loop-i-init c = let a = c.args in raw_start (take a.len (words a.words.now)) a.count a.sum_words.now a.sums.now

pub loop-i-preserved-then-is_zero : goal.loop-i-preserved-then-is_zero
loop-i-preserved-then-is_zero c =
    let a = c.args in
    let l = c.loop-i in
    raw_passes (take a.len (words a.words.now)) a.count a.sum_words.now a.sums.now c.requires.0 c.requires.1 l.i l.raw l.invariant c.loop-i-test.true (onto c.term_at-t.result) c.term_at-t.ensures (sym c.is_zero.ensures ∙ c.if-is_zero.true)

pub loop-i-preserved : goal.loop-i-preserved
loop-i-preserved c =
    let a = c.args in
    let l = c.loop-i in
    elim c.if-in_basis.branch [
      | then-in_basis w ↦ rw w.raw-is (raw_adds (take a.len (words a.words.now)) a.count a.sum_words.now a.sums.now c.requires.0 c.requires.1 l.i l.raw l.invariant c.loop-i-test.true (onto c.term_at-t.result) c.term_at-t.ensures (sym c.is_zero.ensures ∙ c.if-is_zero.false) (sym c.in_basis.ensures ∙ w.if-in_basis.true) _ w.magnitude-raw.ensures)
      | else-in_basis w ↦ rw w.raw-is (raw_leaves (take a.len (words a.words.now)) a.count a.sum_words.now a.sums.now c.requires.0 c.requires.1 l.i l.raw l.invariant c.loop-i-test.true (onto c.term_at-t.result) c.term_at-t.ensures (sym c.is_zero.ensures ∙ c.if-is_zero.false) (sym c.in_basis.ensures ∙ w.if-in_basis.false))
    ]

pub returns : goal.returns
returns c =
    let a = c.args in
    let l = c.loop-i in
    raw_done (take a.len (words a.words.now)) a.count a.sum_words.now a.sums.now c.requires.0 c.requires.1 l.i l.raw l.invariant c.loop-i-test.false
