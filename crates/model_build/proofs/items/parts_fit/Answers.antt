-- SPDX-FileCopyrightText: 2026 The PPVM Authors
-- SPDX-License-Identifier: Apache-2.0

-- `items::parts_fit` meets its contract: the lengths that are left make up what is left. Assumes nothing.
use mathlib.Core.Path.{sym, ◌∙◌}
use Rattle.model_build.proofs.Parts.{fit_short, fit_turn, fit_over, fit_end}
use Rattle.model_build.proofs.items.parts_fit.Goals as goal

pub returns-then-left-n : goal.returns-then-left-n
returns-then-left-n c =
    let l = c.loop-length in
    sym (l.invariant ∙ fit_short c.args.lengths.now l.length-index l.left c.loop-length-test.true c.if-left-n.true)

pub loop-length-preserved : goal.loop-length-preserved
loop-length-preserved c =
    let l = c.loop-length in
    l.invariant ∙ fit_turn c.args.lengths.now l.length-index l.left c.loop-length-test.true c.if-left-n.false

pub returns-then-left-ne0 : goal.returns-then-left-ne0
returns-then-left-ne0 c =
    let l = c.loop-length in
    sym (l.invariant ∙ fit_over c.args.lengths.now l.length-index l.left c.loop-length-test.false c.if-left-ne0.true)

pub returns : goal.returns
returns c =
    let l = c.loop-length in
    sym (l.invariant ∙ fit_end c.args.lengths.now l.length-index l.left c.loop-length-test.false c.if-left-ne0.false)
