-- SPDX-FileCopyrightText: 2026 The PPVM Authors
-- SPDX-License-Identifier: Apache-2.0

-- `matrix::entries_apart` meets its contract: both places are below ops × ops. Assumes nothing.
use native.Mathlib.Omega.{arith}
use Rattle.k_matrix.proofs.MatrixLaws.{places_few, place_below, apart_told}
use Rattle.k_matrix.proofs.matrix.entries_apart.Goals as goal

pub overflow_mul-n : goal.overflow_mul-n
overflow_mul-n c =
    let a = c.args in
    omega (arith, places_few a.ops c.requires.0.few, place_below a.ops a.n a.m c.requires.1 c.requires.2)

pub overflow_add-n : goal.overflow_add-n
overflow_add-n c =
    let a = c.args in
    omega (arith, places_few a.ops c.requires.0.few, place_below a.ops a.n a.m c.requires.1 c.requires.2)

pub complex_at-own-requires : goal.complex_at-own-requires
complex_at-own-requires c =
    let a = c.args in
    omega (arith, c.requires.0.entries_all, place_below a.ops a.n a.m c.requires.1 c.requires.2)

pub overflow_mul-m : goal.overflow_mul-m
overflow_mul-m c =
    let a = c.args in
    omega (arith, places_few a.ops c.requires.0.few, place_below a.ops a.m a.n c.requires.2 c.requires.1)

pub overflow_add-m : goal.overflow_add-m
overflow_add-m c =
    let a = c.args in
    omega (arith, places_few a.ops c.requires.0.few, place_below a.ops a.m a.n c.requires.2 c.requires.1)

pub complex_at-mirror-requires : goal.complex_at-mirror-requires
complex_at-mirror-requires c =
    let a = c.args in
    omega (arith, c.requires.0.entries_all, place_below a.ops a.m a.n c.requires.2 c.requires.1)

pub conj-requires : goal.conj-requires
conj-requires c = tt

pub sub-requires : goal.sub-requires
sub-requires c = tt

pub norm_sqr-requires : goal.norm_sqr-requires
norm_sqr-requires c = tt

pub near-requires : goal.near-requires
near-requires c = tt

pub returns : goal.returns
returns c =
    let a = c.args in
    apart_told a.ops a.k.now a.largest c.requires.0 a.n a.m c.requires.1 c.requires.2 c.complex_at-own.ensures
    c.complex_at-mirror.ensures c.conj.ensures c.sub.ensures c.norm_sqr.ensures c.near.ensures
