-- SPDX-FileCopyrightText: 2026 The PPVM Authors
-- SPDX-License-Identifier: Apache-2.0

-- `items::check_jump` meets its contract: the rate is tested before the operator. Assumes nothing.
use mathlib.Core.Path.{◌∙◌}
use Rattle.model_build.proofs.ItemAnswers.{jump_negative, jump_range, jump_operator}
use Rattle.model_build.proofs.items.check_jump.Goals as goal

pub returns-then-rate : goal.returns-then-rate
returns-then-rate c = jump_negative _ _ _ c.if-rate.true

pub returns-then-not-in_range : goal.returns-then-not-in_range
returns-then-not-in_range c = jump_range _ _ _ c.if-rate.false _ c.in_range.ensures c.if-not-in_range.true-raw

pub returns : goal.returns
returns c = c.check_operator.ensures ∙ jump_operator _ _ _ c.if-rate.false _ c.in_range.ensures c.if-not-in_range.false-raw
