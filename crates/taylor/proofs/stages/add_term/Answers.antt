-- SPDX-FileCopyrightText: 2026 The PPVM Authors
-- SPDX-License-Identifier: Apache-2.0

-- `stages::add_term` meets its contract: the product is passed first, then b, then v. Assumes nothing.
use Rattle.taylor.proofs.TermLaws.{term_first, term_second, term_third}
use Rattle.taylor.proofs.stages.add_term.Goals as goal

pub returns-then-multiplied-rows : goal.returns-then-multiplied-rows
returns-then-multiplied-rows c =
    let a = c.args in
    let q = c.sum_rows-multiplied in
    term_first a.offsets.now a.columns.now a.values.now a.b.now a.product.now a.v.now c.requires a.factor q.result q.new.work q.ensures c.if-multiplied-rows.true

pub returns-then-scaled-rows : goal.returns-then-scaled-rows
returns-then-scaled-rows c =
    let a = c.args in
    let q = c.sum_rows-multiplied in
    let p = c.scale_rows-scaled in
    term_second a.offsets.now a.columns.now a.values.now a.b.now a.product.now a.v.now c.requires a.factor q.result q.new.work q.ensures c.if-multiplied-rows.false p.result p.new.b p.ensures c.if-scaled-rows.true

pub returns : goal.returns
returns c =
    let a = c.args in
    let q = c.sum_rows-multiplied in
    let p = c.scale_rows-scaled in
    let d = c.add_rows in
    term_third a.offsets.now a.columns.now a.values.now a.b.now a.product.now a.v.now c.requires a.factor q.result q.new.work q.ensures c.if-multiplied-rows.false p.result p.new.b p.ensures c.if-scaled-rows.false d.result d.new.v d.ensures
