-- SPDX-FileCopyrightText: 2026 The PPVM Authors
-- SPDX-License-Identifier: Apache-2.0

-- `product::try_rows` meets its contract: where the walk stops, what it wrote is made zero again. Assumes nothing.
use mathlib.Core.Path.{sym}
use native.Mathlib.Omega.{arith}
use borrow.Author.Tests.{not-false}
use lib.Seq.{length-take-le}
use Rattle.csr.proofs.AnswerLaws.{quick_nothing, quick_all, quick_restored}
use Rattle.csr.proofs.product.try_rows.Goals as goal

pub returns-then-first-gt0 : goal.returns-then-first-gt0
returns-then-first-gt0 c = let a = c.args in quick_nothing a.offsets.now a.columns.now a.values.now a.input.now a.overwrite a.output.now a.work.now

pub returns-then-last-columns : goal.returns-then-last-columns
returns-then-last-columns c = let a = c.args in quick_nothing a.offsets.now a.columns.now a.values.now a.input.now a.overwrite a.output.now a.work.now

pub returns-then-not-are_ready : goal.returns-then-not-are_ready
returns-then-not-are_ready c = let a = c.args in quick_nothing a.offsets.now a.columns.now a.values.now a.input.now a.overwrite a.output.now a.work.now

pub slice_bounds-clear_numbers-end-then-done-rows : goal.slice_bounds-clear_numbers-end-then-done-rows
slice_bounds-clear_numbers-end-then-done-rows c =
    let q = c.sum_rows-done in
    sym (length-take-le q.result q.new.work (omega (arith, q.auto.work, c.if-done-rows.true, c.requires.3)))

pub returns-then-done-rows : goal.returns-then-done-rows
returns-then-done-rows c =
    let a = c.args in
    let q = c.sum_rows-done in
    quick_restored a.offsets.now a.columns.now a.values.now a.input.now a.overwrite a.output.now a.work.now c.requires.0 c.requires.1 c.requires.3 (c.are_ready.ensures (not-false _ c.if-not-are_ready.false-raw)) q.result q.new.work q.ensures c.if-done-rows.true c.clear_numbers.new.t c.clear_numbers.ensures

pub returns : goal.returns
returns c =
    let a = c.args in
    let q = c.sum_rows-done in
    quick_all a.offsets.now a.columns.now a.values.now a.input.now a.overwrite a.output.now a.work.now c.requires.0 c.requires.1 c.requires.3 (c.are_ready.ensures (not-false _ c.if-not-are_ready.false-raw)) q.result q.new.work q.ensures c.if-first-gt0.false c.if-last-columns.false c.if-done-rows.false
