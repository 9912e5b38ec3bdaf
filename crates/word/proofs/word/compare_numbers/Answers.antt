-- SPDX-FileCopyrightText: 2026 The PPVM Authors
-- SPDX-License-Identifier: Apache-2.0

-- `word::compare_numbers` meets its contract. Assumes nothing.
use mathlib.Core.Path.{◌∙◌}
use Rattle.word.proofs.OrderLaws.{by_numbers}
use Rattle.word.proofs.word.compare_numbers.Goals as goal

pub returns : goal.returns
returns c = c.cmp.ensures ∙ by_numbers c.args.a c.args.b
