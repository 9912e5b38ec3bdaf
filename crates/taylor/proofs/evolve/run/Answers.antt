-- SPDX-FileCopyrightText: 2026 The PPVM Authors
-- SPDX-License-Identifier: Apache-2.0

-- `evolve::run` meets its contract: stopped at a row, or written out. Assumes nothing.
use Rattle.taylor.proofs.EvolveLaws.{stages_ready, run_stopped, run_finished}
use Rattle.taylor.proofs.evolve.run.Goals as goal

pub run_stages-passed-requires : goal.run_stages-passed-requires
run_stages-passed-requires c =
    let a = c.args in
    let q = c.copy_numbers in
    stages_ready a.offsets.now a.columns.now a.values.now a.m a.s a.dt a.coeffs.now a.v.now a.b.now a.product.now a.out.now c.requires q.new.to q.ensures

pub returns-then-passed-rows : goal.returns-then-passed-rows
returns-then-passed-rows c =
    let a = c.args in
    let q = c.copy_numbers in
    let p = c.run_stages-passed in
    run_stopped a.offsets.now a.columns.now a.values.now a.m a.s a.dt a.coeffs.now a.v.now a.b.now a.product.now a.out.now c.requires q.new.to q.ensures p.result p.new.v p.ensures c.if-passed-rows.true

pub returns : goal.returns
returns c =
    let a = c.args in
    let q = c.copy_numbers in
    let p = c.run_stages-passed in
    let o = c.copy_numbers-2 in
    run_finished a.offsets.now a.columns.now a.values.now a.m a.s a.dt a.coeffs.now a.v.now a.b.now a.product.now a.out.now c.requires q.new.to q.ensures p.result p.new.v p.ensures c.if-passed-rows.false p.auto.v o.new.to o.ensures
