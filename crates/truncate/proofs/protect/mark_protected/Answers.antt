-- SPDX-FileCopyrightText: 2026 The PPVM Authors
-- SPDX-License-Identifier: Apache-2.0

-- `protect::mark_protected` meets its contract. Assumes nothing.
use mathlib.Core.Path.{sym}
use Prim.Native.Nat.{◌/◌}
use native.Mathlib.Omega.{arith}
use lib.ListN.{length}
use lib.Seq.{length-take-le}
use Rattle.word.specs.Flat.{words as words_of, word_lanes}
use Rattle.word.proofs.FlatLaws.{words_high}
use Rattle.keep.proofs.UnflaggedLaws.{unflagged_below}
use Rattle.truncate.proofs.ProtectLaws.{all_marked}
use Rattle.truncate.proofs.protect.mark_protected.Goals as goal

pub slice_bounds-mark_listed-end-2 : goal.slice_bounds-mark_listed-end-2
slice_bounds-mark_listed-end-2 c = let n = c.slots_for-slots in sym (length-take-le n.result c.args.order.now n.ensures.1)

pub slice_bounds-mark_listed-end-4 : goal.slice_bounds-mark_listed-end-4
slice_bounds-mark_listed-end-4 c = sym (length-take-le (length c.args.protected.now / word_lanes) c.args.work.now c.requires.2)

pub slice_bounds-mark_listed-end-6 : goal.slice_bounds-mark_listed-end-6
slice_bounds-mark_listed-end-6 c =
    let l = c.lay_unflagged-listed in
    sym (length-take-le l.result l.new.out (omega (arith, c.requires.3, l.ensures.0, l.auto.out)))

pub mark_listed-requires : goal.mark_listed-requires
mark_listed-requires c =
    let a = c.args in
    let l = c.lay_unflagged-listed in
    let n = c.slots_for-slots in
    let o = length-take-le n.result a.order.now n.ensures.1 in
    let w = length-take-le (length a.protected.now / word_lanes) a.work.now c.requires.2 in
    (omega (arith, c.requires.0, w), omega (arith, n.ensures.0, o, w), c.requires.4, rw l.ensures.1 (unflagged_below a.flags.now))

pub returns : goal.returns
returns c =
    let a = c.args in
    let l = c.lay_unflagged-listed in
    all_marked (words_of a.protected.now) (words_of a.lanes.now) a.flags.now _ _ (omega (arith, c.requires.4, words_high a.lanes.now)) l.ensures.1 c.mark_listed.ensures
