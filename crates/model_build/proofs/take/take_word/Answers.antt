-- SPDX-FileCopyrightText: 2026 The PPVM Authors
-- SPDX-License-Identifier: Apache-2.0

-- `take::take_word` meets its contract. Assumes nothing.
use mathlib.Core.Path.{◌∙◌, sym, ap}
use Rattle.model_build.specs.Taken.{word_in}
use Rattle.model_build.proofs.take.take_word.Goals as goal

pub returns-in_default : goal.returns-in_default
returns-in_default c = c.identity_word.ensures ∙ sym (ap word_in (sym c.parse_pauli_string.ensures ∙ c.in_default.is))

pub returns : goal.returns
returns c = sym (ap word_in (sym c.parse_pauli_string.ensures ∙ c.in-Ok.is))
