-- SPDX-FileCopyrightText: 2026 The PPVM Authors
-- SPDX-License-Identifier: Apache-2.0

-- `room::end_pass` meets its contract. Assumes nothing.
use mathlib.Core.Path.{ap, sym, ◌∙◌}
use Prim.Native.Nat.{◌*◌}
use native.Mathlib.Omega.{arith}
use lib.Seq.{length-take-le}
use Rattle.word.specs.Flat.{word_lanes}
use Rattle.candidates.specs.Tables.{candidate_rows}
use Rattle.candidates.specs.Between.{in_word_order}
use Rattle.lent.specs.Read.{got}
use Rattle.passes.specs.Between.{FiniteRows}
use Rattle.passes.proofs.TookLaws.{stood_held, stood_refused}
use Rattle.passes.proofs.RoomLaws.{order_finite, bad_there, ended_first, ended_fine, ended_all}
use Rattle.passes.proofs.room.end_pass.Goals as goal
use Rattle.passes.proofs.room.end_pass.Goals.{Else-bad-n}

-- no sum is bad
fine : (c : Else-bad-n) → let a = c.args in FiniteRows (in_word_order (candidate_rows a.n a.words.now a.sums.now))
fine c =
    let k = c.requires in
    order_finite c.args.n c.args.words.now c.args.sums.now (omega (arith, k.lanes_long, k.inside)) (omega (arith, k.sums_long, k.inside)) _ c.first_not_finite-bad.ensures c.if-bad-n.false

pub first_not_finite-bad-requires : goal.first_not_finite-bad-requires
first_not_finite-bad-requires c = omega (arith, c.requires.sums_long, c.requires.inside)

pub overflow_mul-n : goal.overflow_mul-n
overflow_mul-n c = omega (arith, c.requires.lanes_long, c.requires.inside, c.well_formed.0)

pub slice_bounds-place_of_bad-end : goal.slice_bounds-place_of_bad-end
slice_bounds-place_of_bad-end c = omega (arith, c.requires.lanes_long, c.requires.inside)

pub slice_bounds-place_of_bad-end-then-bad-n : goal.slice_bounds-place_of_bad-end-then-bad-n
slice_bounds-place_of_bad-end-then-bad-n c = sym (length-take-le _ c.args.words.now (omega (arith, c.requires.lanes_long, c.requires.inside)))

pub slice_bounds-place_of_bad-end-then-bad-n-2 : goal.slice_bounds-place_of_bad-end-then-bad-n-2
slice_bounds-place_of_bad-end-then-bad-n-2 c = omega (arith, c.requires.sums_long, c.requires.inside)

pub slice_bounds-place_of_bad-end-then-bad-n-3 : goal.slice_bounds-place_of_bad-end-then-bad-n-3
slice_bounds-place_of_bad-end-then-bad-n-3 c = sym (length-take-le _ c.args.sums.now (omega (arith, c.requires.sums_long, c.requires.inside)))

pub place_of_bad-position-requires : goal.place_of_bad-position-requires
place_of_bad-position-requires c =
    let k = c.requires in
    let l = length-take-le c.args.n c.args.sums.now (omega (arith, k.sums_long, k.inside)) in
    let w = length-take-le (c.args.n * word_lanes) c.args.words.now (omega (arith, k.lanes_long, k.inside)) in
    (omega (arith, l, w), omega (arith, l, c.if-bad-n.true), bad_there c.args.n c.args.words.now c.args.sums.now (omega (arith, k.lanes_long, k.inside)) (omega (arith, k.sums_long, k.inside)) _ c.first_not_finite-bad.ensures c.if-bad-n.true)

pub returns-then-bad-n : goal.returns-then-bad-n
returns-then-bad-n c =
    let k = c.requires in
    stood_refused _ _ _ _ _ _ _ (ended_first c.args.n c.args.words.now c.args.sums.now (omega (arith, k.lanes_long, k.inside)) (omega (arith, k.sums_long, k.inside)) k.once c.args.room _ c.place_of_bad-position.ensures)

pub returns-then-n-room : goal.returns-then-n-room
returns-then-n-room c =
    let a = c.args in
    stood_held _ _ _ _ _ _ a.n c.requires (ended_all a.room (in_word_order (candidate_rows a.n a.words.now a.sums.now)) (fine (goal.at.returns-then-n-room c).Else-bad-n) (omega (arith, c.requires.once, c.if-n-room.true)))

pub cut-held-requires : goal.cut-held-requires
cut-held-requires c = (c.requires, omega (arith, c.if-n-room.false), fine (goal.at.cut-held-requires c).Else-bad-n)

pub returns : goal.returns
returns c =
    let a = c.args in
    let q = c.cut-held.ensures in
    stood_held _ _ _ _ _ _ _ q.0 (ended_fine a.room (in_word_order (candidate_rows a.n a.words.now a.sums.now)) (fine (goal.at.returns c).Else-bad-n) ∙ ap got (sym q.1))
