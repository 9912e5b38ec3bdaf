-- SPDX-FileCopyrightText: 2026 The PPVM Authors
-- SPDX-License-Identifier: Apache-2.0

-- `items::check_real` meets its contract: the text is tested before the number. Assumes nothing.
use mathlib.Core.Path.{◌∙◌}
use Rattle.refusal.proofs.Told.{handed_on}
use Rattle.model_build.proofs.ItemAnswers.{real_text, real_number, real_accepted}
use Rattle.model_build.proofs.items.check_real.Goals as goal

pub returns-in_err-parse_pauli_string : goal.returns-in_err-parse_pauli_string
returns-in_err-parse_pauli_string c =
    handed_on _ _ c.from_residual.ensures.1 ∙ real_text _ _ _ _ c.parse_pauli_string.ensures _ c.in_err-parse_pauli_string.was

pub returns-then-not-in_range : goal.returns-then-not-in_range
returns-then-not-in_range c = real_number _ _ _ _ c.parse_pauli_string.ensures _ c.in_ok-parse_pauli_string.was _ c.in_range.ensures c.if-not-in_range.true-raw

pub returns : goal.returns
returns c = real_accepted _ _ _ _ c.parse_pauli_string.ensures _ c.in_ok-parse_pauli_string.was _ c.in_range.ensures c.if-not-in_range.false-raw
