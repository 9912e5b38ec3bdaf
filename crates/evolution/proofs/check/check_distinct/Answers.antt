-- SPDX-FileCopyrightText: 2026 The PPVM Authors
-- SPDX-License-Identifier: Apache-2.0

-- `check::check_distinct` meets its contract: a word that comes again, or the slots laid. Assumes nothing.
use mathlib.Core.Path.{sym}
use native.Mathlib.Omega.{arith}
use lib.Seq.{length-take-le}
use Rattle.evolution.proofs.CallLaws.{distinct_repeated, distinct_laid}
use Rattle.evolution.proofs.check.check_distinct.Goals as goal

pub slice_bounds-lay_distinct-end : goal.slice_bounds-lay_distinct-end
slice_bounds-lay_distinct-end c = c.requires.2

pub slice_bounds-lay_distinct-end-2 : goal.slice_bounds-lay_distinct-end-2
slice_bounds-lay_distinct-end-2 c =
    let a = c.args in
    sym (length-take-le a.len a.nexts.now c.requires.2)

pub lay_distinct-first-requires : goal.lay_distinct-first-requires
lay_distinct-first-requires c =
    let a = c.args in
    let k = length-take-le a.len a.nexts.now c.requires.2 in
    (omega (arith, k, c.requires.0), omega (arith, k, c.requires.1))

pub returns-then-first-len : goal.returns-then-first-len
returns-then-first-len c =
    let a = c.args in
    distinct_repeated a.len a.basis.now a.heads.now a.nexts.now c.requires.0 c.lay_distinct-first.new.heads c.lay_distinct-first.new.nexts c.lay_distinct-first.result c.lay_distinct-first.ensures c.if-first-len.true

pub returns : goal.returns
returns c =
    let a = c.args in
    distinct_laid a.len a.basis.now a.heads.now a.nexts.now c.requires.0 c.lay_distinct-first.new.heads c.lay_distinct-first.new.nexts c.lay_distinct-first.result c.lay_distinct-first.ensures c.if-first-len.false
