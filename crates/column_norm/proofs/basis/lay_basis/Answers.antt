-- SPDX-FileCopyrightText: 2026 The PPVM Authors
-- SPDX-License-Identifier: Apache-2.0

-- `basis::lay_basis` meets its contract. Assumes nothing.
use mathlib.Core.Path.{sym}
use native.Mathlib.Omega.{arith}
use lib.Seq.{length-take-le}
use Rattle.word.specs.Flat.{word_lanes}
use Prim.Native.Nat.{◌*◌}
use Rattle.column_norm.proofs.BasisLaws.{slots_asked, slots_laid}
use borrow.Author.Rules.{rules}
use Rattle.column_norm.proofs.basis.lay_basis.Goals as goal

pub overflow_mul-len : goal.overflow_mul-len
overflow_mul-len c = let h = c.requires.0 in search (h, c.well_formed.0, rules)

pub slice_bounds-lay_slots-end : goal.slice_bounds-lay_slots-end
slice_bounds-lay_slots-end c = let a = c.args in sym (length-take-le (a.len * word_lanes) a.words.now (omega (arith, c.requires.0)))

pub slice_bounds-lay_slots-end-2 : goal.slice_bounds-lay_slots-end-2
slice_bounds-lay_slots-end-2 c = c.requires.2

pub slice_bounds-lay_slots-end-3 : goal.slice_bounds-lay_slots-end-3
slice_bounds-lay_slots-end-3 c = let a = c.args in sym (length-take-le a.len a.nexts.now c.requires.2)

pub lay_slots-requires : goal.lay_slots-requires
lay_slots-requires c = let a = c.args in slots_asked a.words.now a.len c.requires.0 a.heads.now a.nexts.now c.requires.1 c.requires.2

pub returns : goal.returns
returns c = let a = c.args in slots_laid a.words.now a.len c.requires.0 a.nexts.now c.requires.2 _ _ c.lay_slots.ensures
