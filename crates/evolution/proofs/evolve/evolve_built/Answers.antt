-- SPDX-FileCopyrightText: 2026 The PPVM Authors
-- SPDX-License-Identifier: Apache-2.0

-- `evolve::evolve_built` meets its contract: no numbers, the numbers evolved, or the refusal passed on. Assumes nothing.
use mathlib.Core.Path.{sym, ap}
use Rattle.evolution.specs.Between.{count_of}
use Prim.Native.Nat.{◌+◌, ◌<◌}
use native.Mathlib.Omega.{arith}
use lib.Seq.{length-take-le}
use Rattle.evolution.proofs.MatrixLaws.{then_none, then_listed, then_refused}
use borrow.Author.Rules.{rules}
use Rattle.evolution.proofs.evolve.evolve_built.Goals as goal

pub returns-then-len-eq0 : goal.returns-then-len-eq0
returns-then-len-eq0 c =
    let a = c.args in
    (then_none a.len a.offsets.now a.columns.now a.values.now a.coeffs.now a.dt a.drop_tol a.out.now a.built _ c.in-Ok.is c.requires.each c.if-len-eq0.true, c.clear_numbers.ensures, c.clear_numbers-then-len-eq0.ensures, c.clear_numbers-then-len-eq0-2.ensures)

pub overflow_add-len : goal.overflow_add-len
overflow_add-len c =
    let some : 0 < c.args.len = omega (arith, c.if-len-eq0.false) in
    let h = c.requires.offsets_long some in
    search rules

pub slice_bounds-evolve-end : goal.slice_bounds-evolve-end
slice_bounds-evolve-end c =
    let a = c.args in
    let some : 0 < a.len = omega (arith, c.if-len-eq0.false) in
    let h = c.requires.offsets_long some in
    sym (length-take-le (a.len + 1) a.offsets.now (omega (arith, h)))

pub slice_bounds-evolve-end-in-Ok : goal.slice_bounds-evolve-end-in-Ok
slice_bounds-evolve-end-in-Ok c =
    sym (length-take-le _ c.args.columns.now (c.requires.held _ (ap count_of c.in-Ok.is)).0)

pub slice_bounds-evolve-end-in-Ok-2 : goal.slice_bounds-evolve-end-in-Ok-2
slice_bounds-evolve-end-in-Ok-2 c =
    sym (length-take-le _ c.args.values.now (c.requires.held _ (ap count_of c.in-Ok.is)).1)

pub evolve-requires : goal.evolve-requires
evolve-requires c =
    let some : 0 < c.args.len = omega (arith, c.if-len-eq0.false) in
    c.requires.ready some _ (ap count_of c.in-Ok.is)

pub returns-else-len-eq0 : goal.returns-else-len-eq0
returns-else-len-eq0 c =
    let a = c.args in
    let q = c.evolve in
    (then_listed a.len a.offsets.now a.columns.now a.values.now a.coeffs.now a.dt a.drop_tol a.out.now a.built _ c.in-Ok.is (record { answer = q.result; out = q.new.out }) q.ensures.0, q.ensures.1, q.ensures.2, q.ensures.3)

pub returns-in-Err : goal.returns-in-Err
returns-in-Err c =
    let a = c.args in
    (then_refused a.len a.offsets.now a.columns.now a.values.now a.coeffs.now a.dt a.drop_tol a.out.now a.built _ c.in-Err.is, c.clear_numbers-in-Err.ensures, c.clear_numbers-in-Err-2.ensures, c.clear_numbers-in-Err-3.ensures)
