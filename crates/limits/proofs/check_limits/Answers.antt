-- SPDX-FileCopyrightText: 2026 The PPVM Authors
-- SPDX-License-Identifier: Apache-2.0

-- `limits::check_limits` meets its contract. Assumes nothing.
use Rattle.limits.proofs.LimitLaws.{basis_many, admit_absent, admit_many, limits_accepted}
use Rattle.limits.proofs.check_limits.Goals as goal

pub returns-then-limits-gt-MAX_WORDS : goal.returns-then-limits-gt-MAX_WORDS
returns-then-limits-gt-MAX_WORDS c = basis_many c.args.limits c.if-limits-gt-MAX_WORDS.true

pub returns-then-limits-eq0 : goal.returns-then-limits-eq0
returns-then-limits-eq0 c = admit_absent c.args.limits c.if-limits-gt-MAX_WORDS.false c.if-limits-eq0.true

pub returns-then-limits-gt-MAX_WORDS-2 : goal.returns-then-limits-gt-MAX_WORDS-2
returns-then-limits-gt-MAX_WORDS-2 c = admit_many c.args.limits c.if-limits-gt-MAX_WORDS.false c.if-limits-eq0.false c.if-limits-gt-MAX_WORDS-2.true

pub returns : goal.returns
returns c = limits_accepted c.args.limits c.if-limits-gt-MAX_WORDS.false c.if-limits-eq0.false c.if-limits-gt-MAX_WORDS-2.false
