-- SPDX-FileCopyrightText: 2026 The PPVM Authors
-- SPDX-License-Identifier: Apache-2.0

-- `room::cut` meets its contract: what is left stands with its slots. Assumes nothing.
use mathlib.Core.Path.{◌≡◌, sym, ◌∙◌}
use Prim.Native.Nat.{◌*◌, ◌≤◌}
use native.Mathlib.Omega.{arith}
use lib.ListN.{length, take}
use lib.Seq.{length-take-le}
use Rattle.word.specs.Flat.{word_lanes}
use Rattle.candidates.specs.Tables.{candidate_rows}
use Rattle.passes.proofs.RoomLaws.{stand_exact, cut_stands}
use Rattle.passes.proofs.room.cut.Goals as goal
use Rattle.passes.proofs.room.cut.Goals.{After-cut_rows-held}

-- ---- the parts that are lent
few : (c : After-cut_rows-held) → c.cut_rows-held.result ≤ c.args.places
few c = omega (arith, c.cut_rows-held.ensures.0, c.requires.0.inside)

lanes_are : (c : After-cut_rows-held) → length (take (c.cut_rows-held.result * word_lanes) c.cut_rows-held.new.words) ≡ c.cut_rows-held.result * word_lanes
lanes_are c = length-take-le (c.cut_rows-held.result * word_lanes) c.cut_rows-held.new.words (omega (arith, few c, c.requires.0.lanes_long, c.cut_rows-held.auto.words))

nexts_are : (c : After-cut_rows-held) → length (take c.cut_rows-held.result c.cut_rows-held.new.work) ≡ c.cut_rows-held.result
nexts_are c = length-take-le c.cut_rows-held.result c.cut_rows-held.new.work (omega (arith, few c, c.requires.0.nexts_long, c.cut_rows-held.auto.work))

pub cut_rows-held-requires : goal.cut_rows-held-requires
cut_rows-held-requires c =
    let a = c.args in
    (stand_exact a.places a.n a.words.now a.sums.now a.order.now a.work.now c.requires.0, c.requires.1, c.requires.2)

pub overflow_mul-held : goal.overflow_mul-held
overflow_mul-held c = omega (arith, few (goal.at.overflow_mul-held c).After-cut_rows-held, c.requires.0.lanes_long, c.well_formed.0)

pub slice_bounds-lay_slots-end : goal.slice_bounds-lay_slots-end
slice_bounds-lay_slots-end c = omega (arith, few (goal.at.slice_bounds-lay_slots-end c).After-cut_rows-held, c.requires.0.lanes_long, c.cut_rows-held.auto.words)

pub slice_bounds-lay_slots-end-2 : goal.slice_bounds-lay_slots-end-2
slice_bounds-lay_slots-end-2 c = sym (lanes_are (goal.at.slice_bounds-lay_slots-end-2 c).After-cut_rows-held)

pub slice_bounds-lay_slots-end-3 : goal.slice_bounds-lay_slots-end-3
slice_bounds-lay_slots-end-3 c = omega (arith, few (goal.at.slice_bounds-lay_slots-end-3 c).After-cut_rows-held, c.requires.0.nexts_long, c.cut_rows-held.auto.work)

pub slice_bounds-lay_slots-end-4 : goal.slice_bounds-lay_slots-end-4
slice_bounds-lay_slots-end-4 c = sym (nexts_are (goal.at.slice_bounds-lay_slots-end-4 c).After-cut_rows-held)

pub lay_slots-requires : goal.lay_slots-requires
lay_slots-requires c =
    let d = (goal.at.lay_slots-requires c).After-cut_rows-held in
    (omega (arith, lanes_are d, nexts_are d), omega (arith, nexts_are d, few d, c.requires.0.heads_long, c.cut_rows-held.auto.order))

pub returns : goal.returns
returns c =
    let a = c.args in
    let h = c.requires.0 in
    let d = (goal.at.returns c).After-cut_rows-held in
    let q = c.cut_rows-held in
    let p = c.lay_slots in
    cut_stands a.places a.n a.room q.result (candidate_rows a.n a.words.now a.sums.now) q.new.words q.new.sums p.new.heads p.new.nexts q.new.work
    (omega (arith, h.lanes_long, q.auto.words)) (omega (arith, h.sums_long, q.auto.sums)) (omega (arith, h.heads_long, q.auto.order, p.auto.heads)) (omega (arith, h.nexts_long, q.auto.work)) h.inside
    q.ensures (p.auto.nexts ∙ nexts_are d) p.ensures
