-- SPDX-FileCopyrightText: 2026 The PPVM Authors
-- SPDX-License-Identifier: Apache-2.0

-- `limits::word_limit` meets its contract. Assumes nothing.
use mathlib.Core.Path.{◌∙◌}
use Rattle.limits.proofs.LimitLaws.{limit_alone, limit_raised}
use Rattle.limits.proofs.word_limit.Goals as goal

pub returns-then-limits-eq0 : goal.returns-then-limits-eq0
returns-then-limits-eq0 c = limit_alone c.args.limits c.if-limits-eq0.true

pub returns : goal.returns
returns c = c.larger.ensures ∙ limit_raised c.args.limits c.if-limits-eq0.false
