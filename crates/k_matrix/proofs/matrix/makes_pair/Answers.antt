-- SPDX-FileCopyrightText: 2026 The PPVM Authors
-- SPDX-License-Identifier: Apache-2.0

-- `matrix::makes_pair` meets its contract: a place below ops × ops has a row and a column. Assumes nothing.
use mathlib.Core.Path.{sym}
use native.Mathlib.Omega.{arith}
use Rattle.sums.specs.Numbers.{complexes}
use Rattle.k_matrix.proofs.MatrixLaws.{some_ops, pair_turned, pair_told}
use Rattle.k_matrix.proofs.matrix.makes_pair.Goals as goal

pub nonzero_rem-p : goal.nonzero_rem-p
nonzero_rem-p c = omega (arith, some_ops c.args.ops c.args.p c.requires.1)

pub nonzero_div-p : goal.nonzero_div-p
nonzero_div-p c = omega (arith, some_ops c.args.ops c.args.p c.requires.1)

pub returns-then-p-ops : goal.returns-then-p-ops
returns-then-p-ops c =
    sym (pair_turned c.args.ops (complexes c.args.k.now) c.args.p c.if-p-ops.true)

pub complex_at-requires : goal.complex_at-requires
complex_at-requires c = omega (arith, c.requires.0.entries_all, c.requires.1)

pub norm_sqr-requires : goal.norm_sqr-requires
norm_sqr-requires c = tt

pub negligible_beside-requires : goal.negligible_beside-requires
negligible_beside-requires c = tt

pub returns : goal.returns
returns c =
    pair_told c.args.ops c.args.k.now c.args.largest c.requires.0 c.args.p c.requires.1 c.if-p-ops.false
    c.complex_at.ensures c.norm_sqr.ensures c.negligible_beside.ensures
