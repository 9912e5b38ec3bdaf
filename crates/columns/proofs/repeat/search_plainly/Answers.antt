-- SPDX-FileCopyrightText: 2026 The PPVM Authors
-- SPDX-License-Identifier: Apache-2.0

-- `repeat::search_plainly` meets its contract: no word before k comes again. Assumes nothing.
use mathlib.Core.Path.{sym}
use native.Mathlib.Omega.{arith}
use Rattle.word.specs.Flat.{words}
use Rattle.lent.proofs.Firsts.{stops_here, stops_last}
use Rattle.word.proofs.FlatLaws.{words_count}
use Rattle.columns.specs.Repeats.{repeats_at}
use Rattle.columns.proofs.RepeatLaws.{first_is}
use Rattle.columns.proofs.repeat.search_plainly.Goals as goal

pub stood_before-requires : goal.stood_before-requires
stood_before-requires c = let n = words_count c.args.lanes.now in omega (arith, n, c.loop-k-test.true)

pub returns-then-stood_before : goal.returns-then-stood_before
returns-then-stood_before c =
    let ws = words c.args.lanes.now in
    first_is ws _ (sym (words_count c.args.lanes.now)) (stops_here _ (repeats_at ws) c.loop-k.k c.loop-k-test.true c.loop-k.invariant c.stood_before.ensures c.if-stood_before.true)

pub returns : goal.returns
returns c =
    let ws = words c.args.lanes.now in
    first_is ws _ (sym (words_count c.args.lanes.now)) (stops_last _ (repeats_at ws) c.loop-k.k c.loop-k-test.false c.loop-k.invariant)
