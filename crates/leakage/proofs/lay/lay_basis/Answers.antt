-- SPDX-FileCopyrightText: 2026 The PPVM Authors
-- SPDX-License-Identifier: Apache-2.0

-- `lay::lay_basis` meets its contract. Assumes nothing.
use mathlib.Core.Path.{sym, ◌∙◌}
use mathlib.Core.List.{◌++◌}
use Prim.Native.Nat.{◌+◌, ◌*◌, ◌/◌}
use native.Mathlib.Omega.{arith}
use lib.ListN.{length, take, drop}
use lib.Seq.{length-take-le, length_front}
use Rattle.word.specs.Flat.{word_lanes}
use Rattle.word.proofs.FlatLaws.{words_count}
use Rattle.leakage.proofs.LeakLaws.{laid_first}
use Rattle.leakage.proofs.lay.lay_basis.Goals as goal

pub returns-then-len-eq0 : goal.returns-then-len-eq0
returns-then-len-eq0 c = λ h. absurd (omega (arith, h, c.if-len-eq0.true))

pub slice_bounds-order_by_desc_mag-end : goal.slice_bounds-order_by_desc_mag-end
slice_bounds-order_by_desc_mag-end c = sym (length-take-le c.args.len c.args.coeffs.now (c.requires (omega (arith, c.if-len-eq0.false))).coeffs_long)

pub slice_bounds-order_by_desc_mag-end-2 : goal.slice_bounds-order_by_desc_mag-end-2
slice_bounds-order_by_desc_mag-end-2 c = (c.requires (omega (arith, c.if-len-eq0.false))).order_long

pub slice_bounds-order_by_desc_mag-end-3 : goal.slice_bounds-order_by_desc_mag-end-3
slice_bounds-order_by_desc_mag-end-3 c = sym (length-take-le c.args.len c.args.order.now (c.requires (omega (arith, c.if-len-eq0.false))).order_long)

pub slice_bounds-order_by_desc_mag-end-4 : goal.slice_bounds-order_by_desc_mag-end-4
slice_bounds-order_by_desc_mag-end-4 c = omega (arith, (c.requires (omega (arith, c.if-len-eq0.false))).nexts_long)

pub slice_bounds-order_by_desc_mag-end-5 : goal.slice_bounds-order_by_desc_mag-end-5
slice_bounds-order_by_desc_mag-end-5 c = sym (length-take-le c.args.len c.args.nexts.now (omega (arith, (c.requires (omega (arith, c.if-len-eq0.false))).nexts_long)))

pub order_by_desc_mag-requires : goal.order_by_desc_mag-requires
order_by_desc_mag-requires c =
    let a = c.args in
    let h = c.requires (omega (arith, c.if-len-eq0.false)) in
    let l = sym (length-take-le a.len a.coeffs.now h.coeffs_long) in
    (length-take-le a.len a.order.now h.order_long ∙ l, length-take-le a.len a.nexts.now (omega (arith, h.nexts_long)) ∙ l)

pub overflow_add-both : goal.overflow_add-both
overflow_add-both c = let h = (c.requires (omega (arith, c.if-len-eq0.false))).nexts_long in omega (arith, h, c.well_formed.1.1.1.1.1.1.0)

pub overflow_mul-len : goal.overflow_mul-len
overflow_mul-len c = let h = (c.requires (omega (arith, c.if-len-eq0.false))).lanes_long in omega (arith, h, c.well_formed.0)

pub slice_bounds-lay_slots_of_both-end : goal.slice_bounds-lay_slots_of_both-end
slice_bounds-lay_slots_of_both-end c = sym (length-take-le (c.args.len * word_lanes) c.args.words.now (omega (arith, (c.requires (omega (arith, c.if-len-eq0.false))).lanes_long)))

pub slice_bounds-lay_slots_of_both-end-2 : goal.slice_bounds-lay_slots_of_both-end-2
slice_bounds-lay_slots_of_both-end-2 c =
    let a = c.args in
    let o = c.order_by_desc_mag in
    omega (arith, (c.requires (omega (arith, c.if-len-eq0.false))).nexts_long, length_front a.nexts.now o.new.work a.len o.auto.work)

pub slice_bounds-lay_slots_of_both-end-3 : goal.slice_bounds-lay_slots_of_both-end-3
slice_bounds-lay_slots_of_both-end-3 c =
    let a = c.args in
    let o = c.order_by_desc_mag in
    sym (length-take-le (c.args.len + length c.args.protected.now / word_lanes) _ (omega (arith, (c.requires (omega (arith, c.if-len-eq0.false))).nexts_long, length_front a.nexts.now o.new.work a.len o.auto.work)))

pub lay_slots_of_both-requires : goal.lay_slots_of_both-requires
lay_slots_of_both-requires c =
    let a = c.args in
    let h = c.requires (omega (arith, c.if-len-eq0.false)) in
    let o = c.order_by_desc_mag in
    let n = length_front a.nexts.now o.new.work a.len o.auto.work in
    let k = length-take-le (c.args.len + length c.args.protected.now / word_lanes) (o.new.work ++ drop a.len a.nexts.now) (omega (arith, h.nexts_long, n)) in
    let l = length-take-le (a.len * word_lanes) a.words.now (omega (arith, h.lanes_long)) in
    (omega (arith, k, l, words_count (take (a.len * word_lanes) a.words.now), words_count a.protected.now), omega (arith, k, h.slots_enough))

pub returns : goal.returns
returns c = λ z.
    let a = c.args in
    let h = c.requires (omega (arith, c.if-len-eq0.false)) in
    let o = c.order_by_desc_mag in
    let f = c.lay_slots_of_both in
    let n = length_front a.nexts.now o.new.work a.len o.auto.work in
    record {
      order_is = laid_first a.len o.new.order a.order.now (o.auto.order ∙ length-take-le a.len a.order.now h.order_long) ∙ o.ensures;
      slots = rw (laid_first (c.args.len + length c.args.protected.now / word_lanes) f.new.nexts (o.new.work ++ drop a.len a.nexts.now) (f.auto.nexts ∙ length-take-le (c.args.len + length c.args.protected.now / word_lanes) (o.new.work ++ drop a.len a.nexts.now) (omega (arith, h.nexts_long, n)))) f.ensures;
    }
