-- SPDX-FileCopyrightText: 2026 The PPVM Authors
-- SPDX-License-Identifier: Apache-2.0

-- `room::cut_rows` meets its contract: those that stay beside the last one are the largest. Assumes nothing.
use mathlib.Core.Path.{sym, ◌∙◌}
use Prim.Native.Nat.{◌*◌}
use native.Mathlib.Omega.{arith}
use lib.Seq.{length-take-le}
use Rattle.word.specs.Flat.{word_lanes}
use Rattle.candidates.specs.Tables.{candidate_rows}
use Rattle.candidates.specs.Between.{in_word_order}
use Rattle.passes.proofs.RoomLaws.{front_once, front_finite, cut_left, cut_none}
use Rattle.passes.proofs.room.cut_rows.Goals as goal

pub returns-then-room-eq0 : goal.returns-then-room-eq0
returns-then-room-eq0 c =
    cut_none c.args.n c.args.room c.args.words.now c.args.sums.now (in_word_order (candidate_rows c.args.n c.args.words.now c.args.sums.now)) c.if-room-eq0.true

pub slice_bounds-keep_largest-end : goal.slice_bounds-keep_largest-end
slice_bounds-keep_largest-end c = omega (arith, c.requires.0.lanes_long)

pub slice_bounds-keep_largest-end-2 : goal.slice_bounds-keep_largest-end-2
slice_bounds-keep_largest-end-2 c = sym (length-take-le _ c.args.words.now (omega (arith, c.requires.0.lanes_long)))

pub slice_bounds-keep_largest-end-3 : goal.slice_bounds-keep_largest-end-3
slice_bounds-keep_largest-end-3 c = c.requires.0.sums_long

pub slice_bounds-keep_largest-end-4 : goal.slice_bounds-keep_largest-end-4
slice_bounds-keep_largest-end-4 c = sym (length-take-le _ c.args.sums.now c.requires.0.sums_long)

pub slice_bounds-keep_largest-end-5 : goal.slice_bounds-keep_largest-end-5
slice_bounds-keep_largest-end-5 c = c.requires.0.heads_long

pub slice_bounds-keep_largest-end-6 : goal.slice_bounds-keep_largest-end-6
slice_bounds-keep_largest-end-6 c = sym (length-take-le _ c.args.order.now c.requires.0.heads_long)

pub slice_bounds-keep_largest-end-7 : goal.slice_bounds-keep_largest-end-7
slice_bounds-keep_largest-end-7 c = c.requires.0.nexts_long

pub slice_bounds-keep_largest-end-8 : goal.slice_bounds-keep_largest-end-8
slice_bounds-keep_largest-end-8 c = sym (length-take-le _ c.args.work.now c.requires.0.nexts_long)

pub keep_largest-requires : goal.keep_largest-requires
keep_largest-requires c =
    let k = c.requires.0 in
    let l = length-take-le c.args.n c.args.sums.now k.sums_long in
    let w = length-take-le (c.args.n * word_lanes) c.args.words.now (omega (arith, k.lanes_long)) in (
      omega (arith, l, w),
      length-take-le c.args.n c.args.order.now k.heads_long ∙ sym l,
      length-take-le c.args.n c.args.work.now k.nexts_long ∙ sym l,
      omega (arith, c.if-room-eq0.false),
      omega (arith, l, c.requires.1),
      front_finite c.args.n c.args.words.now c.args.sums.now k.lanes_long k.sums_long k.once c.requires.2,
      front_once c.args.n c.args.words.now c.args.sums.now k.lanes_long k.sums_long k.once,
    )

pub returns : goal.returns
returns c =
    let k = c.requires.0 in
    let q = c.keep_largest in
    cut_left c.args.n c.args.words.now c.args.sums.now k.lanes_long k.sums_long k.once c.args.room q.result q.new.words q.new.sums q.auto.words q.auto.sums (λ i h. c.slice_known-2-1.given i) c.requires.2 q.ensures
