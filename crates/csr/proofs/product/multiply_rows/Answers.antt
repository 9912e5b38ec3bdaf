-- SPDX-FileCopyrightText: 2026 The PPVM Authors
-- SPDX-License-Identifier: Apache-2.0

-- `product::multiply_rows` meets its contract, answer by answer. Assumes nothing.
use mathlib.Core.Path.{sym, subst, ◌∙◌}
use mathlib.Core.List.{List}
use native.Mathlib.Omega.{arith}
use lib.Ieee.{Float}
use Rattle.refusal.proofs.Told.{handed_on}
use Rattle.csr.specs.Walks.{Walked}
use Rattle.csr.proofs.AnswerLaws.{quick_answer, refused_answer, late_answer, late_length, slow_answer}
use Rattle.csr.proofs.product.multiply_rows.Goals as goal

pub returns-then-try_rows : goal.returns-then-try_rows
returns-then-try_rows c =
    let a = c.args in
    let q = c.try_rows in
    let r = c.store in
    quick_answer a.offsets.now a.columns.now a.values.now a.input.now a.overwrite a.output.now a.work.now c.requires.2 c.requires.3 q.result q.new.work r.new.output r.new.work q.ensures c.if-try_rows.true r.ensures.0 r.ensures.1

pub returns-in_err-check_tables : goal.returns-in_err-check_tables
returns-in_err-check_tables c =
    let a = c.args in
    let q = c.try_rows in
    rw (handed_on _ _ c.from_residual.ensures.1) (refused_answer a.offsets.now a.columns.now a.values.now a.input.now a.overwrite a.output.now a.work.now _ q.new.work (sym c.check_tables.ensures ∙ c.in_err-check_tables.was) (q.ensures.kept c.if-try_rows.false))

pub returns-then-done-rows : goal.returns-then-done-rows
returns-then-done-rows c =
    let a = c.args in
    let t = c.try_rows in
    let q = c.sum_rows-done in
    let w = subst (λ (l : List Float). Walked a.offsets.now a.columns.now a.values.now a.input.now a.overwrite a.output.now l q.result q.new.work) (t.ensures.kept c.if-try_rows.false) q.ensures in
    late_answer a.offsets.now a.columns.now a.values.now a.input.now a.overwrite a.output.now a.work.now c.requires.2 c.requires.3 c.requires.0 c.requires.1 (sym c.check_tables.ensures ∙ c.in_ok-check_tables.was) q.result q.new.work w c.clear_numbers.new.t c.clear_numbers.ensures c.if-done-rows.true

pub store-requires-2 : goal.store-requires-2
store-requires-2 c =
    let a = c.args in
    let t = c.try_rows in
    let q = c.sum_rows-done in
    let w = subst (λ (l : List Float). Walked a.offsets.now a.columns.now a.values.now a.input.now a.overwrite a.output.now l q.result q.new.work) (t.ensures.kept c.if-try_rows.false) q.ensures in
    let l = late_length a.offsets.now a.columns.now a.values.now a.input.now a.overwrite a.output.now a.work.now c.requires.2 c.requires.3 c.requires.0 c.requires.1 (sym c.check_tables.ensures ∙ c.in_ok-check_tables.was) q.result q.new.work w in
    omega (arith, l, c.requires.2, c.requires.3)

pub returns : goal.returns
returns c =
    let a = c.args in
    let t = c.try_rows in
    let q = c.sum_rows-done in
    let w = subst (λ (l : List Float). Walked a.offsets.now a.columns.now a.values.now a.input.now a.overwrite a.output.now l q.result q.new.work) (t.ensures.kept c.if-try_rows.false) q.ensures in
    let r = c.store-2 in
    slow_answer a.offsets.now a.columns.now a.values.now a.input.now a.overwrite a.output.now a.work.now c.requires.2 c.requires.3 c.requires.0 c.requires.1 (sym c.check_tables.ensures ∙ c.in_ok-check_tables.was) q.result q.new.work w r.new.output r.new.work r.ensures.0 r.ensures.1 c.if-done-rows.false
