-- SPDX-FileCopyrightText: 2026 The PPVM Authors
-- SPDX-License-Identifier: Apache-2.0

-- `sums::sum_rows` meets its contract: the rows before r are passed, and what is to be stored there stands in work. Assumes nothing.
use mathlib.Core.Path.{◌≡◌, sym, ap, ◌∙◌}
use native.Mathlib.Omega.{arith}
use lib.Ieee.{Float}
use Rattle.number.specs.Floats.{is_finite}
use Rattle.matrix_row.specs.Rows.{part_of}
use Rattle.csr.specs.Walks.{full_at}
use Rattle.csr.proofs.WalkLaws.{walking_next, stopped_here, stopped_never, stops_row, stops_value, goes_on, falling_row, outside_row, stopped_row, passed_row, stored_here_lem}
use Rattle.csr.proofs.sums.sum_rows.Goals as goal
use Rattle.csr.proofs.sums.sum_rows.Goals.{After-is_finite, After-stored-value}

-- the value is what is to be stored at r
value_is : (c : After-stored-value) → c.stored-value.result ≡ full_at c.args.offsets.now c.args.columns.now c.args.values.now c.args.input.now c.args.overwrite c.args.output.now c.loop-r.r
unfolding part_of
value_is c =
    let a = c.args in
    let l = c.loop-r in
    stored_here_lem a.offsets.now a.columns.now a.values.now a.input.now l.r (omega (arith, c.requires.0, c.loop-r-test.true)) c.if-end-start.false c.if-columns-end.false c.sum_row-found.result c.sum_row-found.ensures c.if-found-end.false a.overwrite a.output.now c.stored-value.result c.stored-value.ensures

finite_is : (c : After-is_finite) → c.stored-value.result ≡ full_at c.args.offsets.now c.args.columns.now c.args.values.now c.args.input.now c.args.overwrite c.args.output.now c.loop-r.r → c.is_finite.result ≡ is_finite (full_at c.args.offsets.now c.args.columns.now c.args.values.now c.args.input.now c.args.overwrite c.args.output.now c.loop-r.r)
finite_is c e = c.is_finite.ensures ∙ ap (λ (x : Float). is_finite x) e

pub returns-then-end-start : goal.returns-then-end-start
returns-then-end-start c =
    let a = c.args in
    let l = c.loop-r in
    stopped_here a.offsets.now a.columns.now a.values.now a.input.now a.overwrite a.output.now a.work.now l.r l.work l.invariant c.loop-r-test.true (stops_row a.offsets.now a.columns.now a.values.now a.input.now a.overwrite a.output.now l.r (falling_row a.offsets.now a.columns.now a.values.now a.input.now l.r c.if-end-start.true))

pub returns-then-columns-end : goal.returns-then-columns-end
returns-then-columns-end c =
    let a = c.args in
    let l = c.loop-r in
    stopped_here a.offsets.now a.columns.now a.values.now a.input.now a.overwrite a.output.now a.work.now l.r l.work l.invariant c.loop-r-test.true (stops_row a.offsets.now a.columns.now a.values.now a.input.now a.overwrite a.output.now l.r (outside_row a.offsets.now a.columns.now a.values.now a.input.now l.r c.if-columns-end.true))

pub returns-then-found-end : goal.returns-then-found-end
unfolding part_of
returns-then-found-end c =
    let a = c.args in
    let l = c.loop-r in
    stopped_here a.offsets.now a.columns.now a.values.now a.input.now a.overwrite a.output.now a.work.now l.r l.work l.invariant c.loop-r-test.true
    (stops_row a.offsets.now a.columns.now a.values.now a.input.now a.overwrite a.output.now l.r (stopped_row a.offsets.now a.columns.now a.values.now a.input.now l.r (omega (arith, c.requires.0, c.loop-r-test.true)) c.if-end-start.false c.if-columns-end.false c.sum_row-found.result c.sum_row-found.ensures c.if-found-end.true))

pub returns-then-not-is_finite : goal.returns-then-not-is_finite
returns-then-not-is_finite c =
    let a = c.args in
    let l = c.loop-r in
    stopped_here a.offsets.now a.columns.now a.values.now a.input.now a.overwrite a.output.now a.work.now l.r l.work l.invariant c.loop-r-test.true (stops_value a.offsets.now a.columns.now a.values.now a.input.now a.overwrite a.output.now l.r (sym (finite_is (goal.at.returns-then-not-is_finite c).After-is_finite (value_is (goal.at.returns-then-not-is_finite c).After-stored-value)) ∙ c.if-not-is_finite.true))

pub loop-r-preserved : goal.loop-r-preserved
unfolding part_of
loop-r-preserved c =
    let a = c.args in
    let l = c.loop-r in
    let passed = passed_row a.offsets.now a.columns.now a.values.now a.input.now l.r (omega (arith, c.requires.0, c.loop-r-test.true)) c.if-end-start.false c.if-columns-end.false c.sum_row-found.result c.sum_row-found.ensures c.if-found-end.false in
    walking_next a.offsets.now a.columns.now a.values.now a.input.now a.overwrite a.output.now a.work.now l.r l.work l.invariant c.requires.3 c.loop-r-test.true c.stored-value.result (value_is (goal.at.loop-r-preserved c).After-stored-value)
    (goes_on a.offsets.now a.columns.now a.values.now a.input.now a.overwrite a.output.now l.r passed (sym (finite_is (goal.at.loop-r-preserved c).After-is_finite (value_is (goal.at.loop-r-preserved c).After-stored-value)) ∙ c.if-not-is_finite.false))

pub returns : goal.returns
returns c =
    let a = c.args in
    let l = c.loop-r in
    stopped_never a.offsets.now a.columns.now a.values.now a.input.now a.overwrite a.output.now a.work.now l.r l.work l.invariant l.auto.r-end c.loop-r-test.false
