-- SPDX-FileCopyrightText: 2026 The PPVM Authors
-- SPDX-License-Identifier: Apache-2.0

-- `check::check_places` meets its contract, answer by answer. Assumes nothing.
use native.Mathlib.Omega.{arith}
use Rattle.lent.proofs.Firsts.{first_inside}
use lib.ListN.{length}
use Prim.Native.Nat.{◌+◌}
use Rattle.csr.specs.Lent.{bad_offset}
use Rattle.csr.proofs.CheckLaws.{offset_bad, column_bad, places_accepted}
use Rattle.csr.proofs.check.check_places.Goals as goal

pub returns-then-offset-rows : goal.returns-then-offset-rows
returns-then-offset-rows c = let a = c.args in offset_bad a.rows a.offsets.now a.columns.now c.first_bad_offset-offset.ensures c.if-offset-rows.true

pub first_bad_column-column-requires : goal.first_bad_column-column-requires
first_bad_column-column-requires c =
    let a = c.args in
    let e = c.first_bad_offset-offset.ensures in
    let i = first_inside (a.rows + 1) (bad_offset a.rows (length a.columns.now) a.offsets.now) in
    (c.requires, omega (arith, e, i, c.if-offset-rows.false))

pub returns-then-column-columns : goal.returns-then-column-columns
returns-then-column-columns c = let a = c.args in column_bad a.rows a.offsets.now a.columns.now c.first_bad_offset-offset.ensures c.if-offset-rows.false c.first_bad_column-column.ensures c.if-column-columns.true

pub returns : goal.returns
returns c = let a = c.args in places_accepted a.rows a.offsets.now a.columns.now c.first_bad_offset-offset.ensures c.if-offset-rows.false c.first_bad_column-column.ensures c.if-column-columns.false
