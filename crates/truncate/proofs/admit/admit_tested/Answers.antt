-- SPDX-FileCopyrightText: 2026 The PPVM Authors
-- SPDX-License-Identifier: Apache-2.0

-- `admit::admit_tested` meets its contract, answer by answer. Assumes nothing.
use mathlib.Core.Path.{sym}
use native.Mathlib.Omega.{arith}
use denote.Floats.{passes}
use lib.Ieee.{nan}
use lib.ListN.{length, get_or}
use lib.Seq.{length-take-le}
use Rattle.number.specs.Floats.{is_finite}
use Rattle.truncate.proofs.AdmitTests.{admit_passed}
use Rattle.truncate.proofs.AdmitLaws.{cleared, admit_full, admit_done}
use Rattle.truncate.proofs.admit.admit_tested.Goals as goal

pub returns-then-places-len : goal.returns-then-places-len
returns-then-places-len c =
    admit_full c.args.len c.args.words.now c.args.coeffs.now c.args.list.now c.args.values.now c.args.order.now c.args.work.now c.args.kept.now c.args.n c.args.limit c.requires _ _ _ c.smaller-places.ensures c.room_left-room.ensures c.smaller-more.ensures _ _ _ c.clear_lanes.ensures c.clear_lanes-then-places-len.ensures c.clear_lanes-then-places-len-2.ensures c.if-places-len.true

pub slice_bounds-append_largest-end : goal.slice_bounds-append_largest-end
slice_bounds-append_largest-end c =
    let p = admit_passed c.args.len c.args.words.now c.args.coeffs.now c.args.list.now c.args.values.now c.args.order.now c.args.work.now c.args.kept.now c.args.n c.args.limit c.requires in
    p.order_long

pub slice_bounds-append_largest-end-2 : goal.slice_bounds-append_largest-end-2
slice_bounds-append_largest-end-2 c =
    let p = admit_passed c.args.len c.args.words.now c.args.coeffs.now c.args.list.now c.args.values.now c.args.order.now c.args.work.now c.args.kept.now c.args.n c.args.limit c.requires in
    sym (length-take-le _ c.args.order.now p.order_long)

pub slice_bounds-append_largest-end-3 : goal.slice_bounds-append_largest-end-3
slice_bounds-append_largest-end-3 c =
    let p = admit_passed c.args.len c.args.words.now c.args.coeffs.now c.args.list.now c.args.values.now c.args.order.now c.args.work.now c.args.kept.now c.args.n c.args.limit c.requires in
    p.work_long

pub slice_bounds-append_largest-end-4 : goal.slice_bounds-append_largest-end-4
slice_bounds-append_largest-end-4 c =
    let p = admit_passed c.args.len c.args.words.now c.args.coeffs.now c.args.list.now c.args.values.now c.args.order.now c.args.work.now c.args.kept.now c.args.n c.args.limit c.requires in
    sym (length-take-le _ c.args.work.now p.work_long)

pub slice_bounds-append_largest-end-5 : goal.slice_bounds-append_largest-end-5
slice_bounds-append_largest-end-5 c =
    let p = admit_passed c.args.len c.args.words.now c.args.coeffs.now c.args.list.now c.args.values.now c.args.order.now c.args.work.now c.args.kept.now c.args.n c.args.limit c.requires in
    p.kept_long

pub slice_bounds-append_largest-end-6 : goal.slice_bounds-append_largest-end-6
slice_bounds-append_largest-end-6 c =
    let p = admit_passed c.args.len c.args.words.now c.args.coeffs.now c.args.list.now c.args.values.now c.args.order.now c.args.work.now c.args.kept.now c.args.n c.args.limit c.requires in
    sym (length-take-le _ c.args.kept.now p.kept_long)

pub append_largest-end-requires : goal.append_largest-end-requires
append_largest-end-requires c =
    let p = admit_passed c.args.len c.args.words.now c.args.coeffs.now c.args.list.now c.args.values.now c.args.order.now c.args.work.now c.args.kept.now c.args.n c.args.limit c.requires in
    let e = c.smaller-places.ensures in
    let m = c.smaller-more.ensures in
    let l = c.if-places-len.false in (
      length-take-le _ c.args.order.now p.order_long,
      length-take-le _ c.args.work.now p.work_long,
      length-take-le _ c.args.kept.now p.kept_long,
      omega (arith, p.values_each),
      omega (arith, e, m, l),
      omega (arith, e, m, l),
      λ i h. passes (is_finite (get_or c.args.values.now i nan)) (p.values_finite i h),
    )

pub returns : goal.returns
returns c =
    let p = admit_passed c.args.len c.args.words.now c.args.coeffs.now c.args.list.now c.args.values.now c.args.order.now c.args.work.now c.args.kept.now c.args.n c.args.limit c.requires in
    let q = c.append_largest-end in
    admit_done c.args.len c.args.words.now c.args.coeffs.now c.args.list.now c.args.values.now c.args.order.now c.args.work.now c.args.kept.now c.args.n c.args.limit c.requires _ _ _ c.smaller-places.ensures c.room_left-room.ensures c.smaller-more.ensures _ _ _
    (cleared _ (length c.args.values.now) c.args.order.now q.new.order p.order_long q.auto.order c.clear_lanes-2.ensures)
    (cleared _ (length c.args.values.now) c.args.work.now q.new.work p.work_long q.auto.work c.clear_lanes-3.ensures)
    (cleared _ (length c.args.values.now) c.args.kept.now q.new.kept p.kept_long q.auto.kept c.clear_lanes-4.ensures)
    c.if-places-len.false _ _ _ q.ensures
