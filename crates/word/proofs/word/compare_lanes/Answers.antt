-- SPDX-FileCopyrightText: 2026 The PPVM Authors
-- SPDX-License-Identifier: Apache-2.0

-- `word::compare_lanes` meets its contract: lane by lane, the first difference decides. Assumes nothing.
use borrow.Author.Rules.{rules}
use lib.ListN.{length}
use mathlib.Core.Path.{◌≡◌, ◌∙◌}
use native.Mathlib.Omega.{arith}
use Rattle.word.specs.Word.{lane_count}
use Rattle.word.proofs.OrderLaws.{Alike, alike_none, alike_more, first_differs, last_lane}
use Rattle.word.proofs.word.compare_lanes.Goals as goal
use Rattle.word.proofs.word.compare_lanes.Goals.{Else-a-b, Else-a-b-2, Else-a-b-3, Start}

-- ---- the lanes that were equal so far
one : (c : Else-a-b) → Alike c.args.a c.args.b 1
one c = alike_more alike_none c.if-a-b.false

two : (c : Else-a-b-2) → Alike c.args.a c.args.b 2
two c = alike_more (one c.before) c.if-a-b-2.false

three : (c : Else-a-b-3) → Alike c.args.a c.args.b 3
three c = alike_more (two c.before) c.if-a-b-3.false

lanes_l : (c : Start) → length c.args.a ≡ lane_count
lanes_l c = search rules

lanes_m : (c : Start) → length c.args.b ≡ lane_count
lanes_m c = search rules

pub returns-then-a-b : goal.returns-then-a-b
returns-then-a-b c =
    let s = (goal.at.returns-then-a-b c).Start in
    c.compare_numbers.ensures ∙ first_differs 0 _ _ _ _ (omega (arith, lanes_l s)) (omega (arith, lanes_m s)) alike_none c.if-a-b.true

pub returns-then-a-b-2 : goal.returns-then-a-b-2
returns-then-a-b-2 c =
    let s = (goal.at.returns-then-a-b-2 c).Start in
    c.compare_numbers-then-a-b-2.ensures ∙ first_differs 1 _ _ _ _ (omega (arith, lanes_l s)) (omega (arith, lanes_m s)) (one (goal.at.returns-then-a-b-2 c).Else-a-b) c.if-a-b-2.true

pub returns-then-a-b-3 : goal.returns-then-a-b-3
returns-then-a-b-3 c =
    let s = (goal.at.returns-then-a-b-3 c).Start in
    c.compare_numbers-then-a-b-3.ensures ∙ first_differs 2 _ _ _ _ (omega (arith, lanes_l s)) (omega (arith, lanes_m s)) (two (goal.at.returns-then-a-b-3 c).Else-a-b-2) c.if-a-b-3.true

pub returns : goal.returns
returns c =
    let s = (goal.at.returns c).Start in
    c.compare_numbers-2.ensures ∙ last_lane 3 _ _ _ (lanes_l s) (lanes_m s) (three (goal.at.returns c).Else-a-b-3)
