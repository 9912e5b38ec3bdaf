-- SPDX-FileCopyrightText: 2026 The PPVM Authors
-- SPDX-License-Identifier: Apache-2.0

-- `evolve::run_pair` meets its contract: the first places of the tables are run in. Assumes nothing.
use mathlib.Core.Path.{sym}
use Prim.Native.Nat.{◌<◌}
use lib.ListN.{length}
use lib.Seq.{length-take-le}
use Rattle.taylor.proofs.EvolveLaws.{front_ready, pair_run}
use borrow.Author.Rules.{rules}
use Rattle.taylor.proofs.evolve.run_pair.Goals as goal

pub slice_bounds-run-end-2 : goal.slice_bounds-run-end-2
slice_bounds-run-end-2 c = sym (length-take-le (length c.args.coeffs.now) c.args.v.now c.requires.0.v_long)

pub slice_bounds-run-end-4 : goal.slice_bounds-run-end-4
slice_bounds-run-end-4 c = sym (length-take-le (length c.args.coeffs.now) c.args.b.now c.requires.0.b_long)

pub slice_bounds-run-end-6 : goal.slice_bounds-run-end-6
slice_bounds-run-end-6 c = sym (length-take-le (length c.args.coeffs.now) c.args.product.now c.requires.0.product_long)

pub slice_bounds-run-end-8 : goal.slice_bounds-run-end-8
slice_bounds-run-end-8 c = sym (length-take-le (length c.args.coeffs.now) c.args.out.now c.requires.0.out_long)

pub run-requires : goal.run-requires
run-requires c =
    let a = c.args in
    let short : a.d.m < 4294967296 = search rules in
    front_ready a.offsets.now a.columns.now a.values.now a.dt a.coeffs.now a.v.now a.b.now a.product.now a.out.now c.requires.0 a.d short c.requires.1

pub returns : goal.returns
returns c =
    let a = c.args in
    let q = c.run in
    pair_run a.offsets.now a.columns.now a.values.now a.dt a.coeffs.now a.v.now a.b.now a.product.now a.out.now c.requires.0 a.d q.result q.new.out q.ensures
