-- SPDX-FileCopyrightText: 2026 The PPVM Authors
-- SPDX-License-Identifier: Apache-2.0

-- `repeat::stood_before` meets its contract: none of the words passed is the word at k. Assumes nothing.
use mathlib.Core.Path.{sym, ◌∙◌}
use native.Mathlib.Omega.{arith}
use Rattle.word.specs.Flat.{words}
use Rattle.word.proofs.FlatLaws.{words_low}
use Rattle.columns.proofs.RepeatLaws.{compare_found, compare_on, compare_end}
use Rattle.columns.proofs.repeat.stood_before.Goals as goal

pub word_at-w-requires : goal.word_at-w-requires
word_at-w-requires c = omega (arith, c.requires, words_low c.args.lanes.now)

pub word_at-v-requires : goal.word_at-v-requires
word_at-v-requires c = omega (arith, c.requires, c.loop-i-test.true, words_low c.args.lanes.now)

pub returns-then-same_word : goal.returns-then-same_word
returns-then-same_word c = compare_found c.word_at-w.result (words c.args.lanes.now) c.args.k c.word_at-w.ensures c.requires c.loop-i.i c.loop-i.invariant c.loop-i-test.true c.word_at-v.result c.word_at-v.ensures (sym c.same_word.ensures ∙ c.if-same_word.true)

pub loop-i-preserved : goal.loop-i-preserved
loop-i-preserved c = compare_on c.word_at-w.result (words c.args.lanes.now) c.args.k c.word_at-w.ensures c.requires c.loop-i.i c.loop-i.invariant c.loop-i-test.true c.word_at-v.result c.word_at-v.ensures (sym c.same_word.ensures ∙ c.if-same_word.false)

pub returns : goal.returns
returns c = compare_end c.word_at-w.result (words c.args.lanes.now) c.args.k c.word_at-w.ensures c.requires c.loop-i.i c.loop-i.invariant c.loop-i-test.false
