-- SPDX-FileCopyrightText: 2026 The PPVM Authors
-- SPDX-License-Identifier: Apache-2.0

-- `stored::lay_entry` meets its contract. Assumes nothing.
use native.Mathlib.Numerals.{towards_suc}
use lib.ListN.{length-set}
use Rattle.lent.specs.Laid.{laid}
use native.Mathlib.Omega.{arith}
use Rattle.model.proofs.stored.lay_entry.Goals as goal

pub bounds-jumps-at-2 : goal.bounds-jumps-at-2
bounds-jumps-at-2 c = simp length-set (omega arith)

pub bounds-jumps-at-3 : goal.bounds-jumps-at-3
bounds-jumps-at-3 c = simp length-set (omega arith)

pub bounds-jumps-at-4 : goal.bounds-jumps-at-4
bounds-jumps-at-4 c = simp length-set (omega arith)

pub bounds-jumps-at-5 : goal.bounds-jumps-at-5
bounds-jumps-at-5 c = simp length-set (omega arith)

pub bounds-jumps-at-6 : goal.bounds-jumps-at-6
bounds-jumps-at-6 c = simp length-set (omega arith)

pub bounds-jumps-at-7 : goal.bounds-jumps-at-7
bounds-jumps-at-7 c = simp length-set (omega arith)

pub bounds-jumps-at-8 : goal.bounds-jumps-at-8
bounds-jumps-at-8 c = simp length-set (omega arith)

pub returns : goal.returns
unfolding laid
returns c = simp towards_suc
