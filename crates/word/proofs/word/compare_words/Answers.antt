-- SPDX-FileCopyrightText: 2026 The PPVM Authors
-- SPDX-License-Identifier: Apache-2.0

-- `word::compare_words` meets its contract: lane by lane, the first difference decides. Assumes nothing.
use mathlib.Core.Path.{◌≡◌, sym, ◌∙◌}
use native.Mathlib.Omega.{arith}
use borrow.Author.Rules.{rules}
use lib.ListN.{length}
use Rattle.word.specs.Word.{lane_count}
use Rattle.word.proofs.OrderLaws.{Alike, alike_none, alike_more, first_differs, all_alike, x_decides}
use Rattle.word.proofs.word.compare_words.Goals as goal
use Rattle.word.proofs.word.compare_words.Goals.{Else-px-qx, Else-px-qx-2, Else-px-qx-3, Else-px-qx-4, Start}

lanes_l : (c : Start) → length c.args.p.x ≡ lane_count
lanes_l c = search rules

lanes_m : (c : Start) → length c.args.q.x ≡ lane_count
lanes_m c = search rules

-- ---- the x lanes that were equal so far
one : (c : Else-px-qx) → Alike c.args.p.x c.args.q.x 1
one c = alike_more alike_none c.if-px-qx.false

two : (c : Else-px-qx-2) → Alike c.args.p.x c.args.q.x 2
two c = alike_more (one c.before) c.if-px-qx-2.false

three : (c : Else-px-qx-3) → Alike c.args.p.x c.args.q.x 3
three c = alike_more (two c.before) c.if-px-qx-3.false

four : (c : Else-px-qx-4) → Alike c.args.p.x c.args.q.x 4
four c = alike_more (three c.before) c.if-px-qx-4.false

pub returns-then-px-qx : goal.returns-then-px-qx
returns-then-px-qx c =
    let s = (goal.at.returns-then-px-qx c).Start in
    x_decides _ _ _ (c.compare_numbers.ensures ∙ first_differs 0 _ _ _ _ (omega (arith, lanes_l s)) (omega (arith, lanes_m s)) alike_none c.if-px-qx.true)

pub returns-then-px-qx-2 : goal.returns-then-px-qx-2
returns-then-px-qx-2 c =
    let s = (goal.at.returns-then-px-qx-2 c).Start in
    x_decides _ _ _ (c.compare_numbers-then-px-qx-2.ensures ∙ first_differs 1 _ _ _ _ (omega (arith, lanes_l s)) (omega (arith, lanes_m s)) (one (goal.at.returns-then-px-qx-2 c).Else-px-qx) c.if-px-qx-2.true)

pub returns-then-px-qx-3 : goal.returns-then-px-qx-3
returns-then-px-qx-3 c =
    let s = (goal.at.returns-then-px-qx-3 c).Start in
    x_decides _ _ _ (c.compare_numbers-then-px-qx-3.ensures ∙ first_differs 2 _ _ _ _ (omega (arith, lanes_l s)) (omega (arith, lanes_m s)) (two (goal.at.returns-then-px-qx-3 c).Else-px-qx-2) c.if-px-qx-3.true)

pub returns-then-px-qx-4 : goal.returns-then-px-qx-4
returns-then-px-qx-4 c =
    let s = (goal.at.returns-then-px-qx-4 c).Start in
    x_decides _ _ _ (c.compare_numbers-then-px-qx-4.ensures ∙ first_differs 3 _ _ _ _ (omega (arith, lanes_l s)) (omega (arith, lanes_m s)) (three (goal.at.returns-then-px-qx-4 c).Else-px-qx-3) c.if-px-qx-4.true)

pub returns : goal.returns
returns c =
    let s = (goal.at.returns c).Start in
    let n = lanes_l s in
    x_decides _ _ _ (c.compare_lanes.ensures ∙ all_alike _ _ _ (n ∙ sym (lanes_m s)) (record { at = λ i h. (four (goal.at.returns c).Else-px-qx-4).at i (omega (arith, n)) }))
