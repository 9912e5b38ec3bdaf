-- SPDX-FileCopyrightText: 2026 The PPVM Authors
-- SPDX-License-Identifier: Apache-2.0

-- `basis::in_basis` meets its contract. Assumes nothing.
use mathlib.Core.Path.{sym}
use native.Mathlib.Omega.{arith}
use lib.Seq.{length-take-le}
use Rattle.word.specs.Flat.{word_lanes}
use Prim.Native.Nat.{◌*◌}
use Rattle.column_norm.proofs.BasisLaws.{slots_read, among_first}
use borrow.Author.Rules.{rules}
use Rattle.column_norm.proofs.basis.in_basis.Goals as goal

pub overflow_mul-len : goal.overflow_mul-len
overflow_mul-len c = let h = c.requires.lanes_long in search (h, c.well_formed.0, rules)

pub slice_bounds-has_word-end : goal.slice_bounds-has_word-end
slice_bounds-has_word-end c = let a = c.args in sym (length-take-le (a.len * word_lanes) a.words.now (omega (arith, c.requires.lanes_long)))

pub slice_bounds-has_word-end-2 : goal.slice_bounds-has_word-end-2
slice_bounds-has_word-end-2 c = let a = c.args in sym (length-take-le a.len a.nexts.now c.requires.nexts_long)

pub has_word-requires : goal.has_word-requires
has_word-requires c = let a = c.args in slots_read a.words.now a.len a.heads.now a.nexts.now c.requires

pub returns : goal.returns
returns c = let a = c.args in among_first a.words.now a.len a.w _ c.has_word.ensures
