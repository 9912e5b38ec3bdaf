-- SPDX-FileCopyrightText: 2026 The PPVM Authors
-- SPDX-License-Identifier: Apache-2.0

-- `check::check_inside` meets its contract. Assumes nothing.
use Rattle.generator.proofs.CheckLaws.{word_outside, words_inside}
use Rattle.generator.proofs.check.check_inside.Goals as goal

pub returns-then-first-len : goal.returns-then-first-len
returns-then-first-len c = word_outside c.args.len c.args.words.now c.args.n _ c.first_outside-first.ensures c.if-first-len.true

pub returns : goal.returns
returns c = words_inside c.args.len c.args.words.now c.args.n _ c.first_outside-first.ensures c.if-first-len.false
