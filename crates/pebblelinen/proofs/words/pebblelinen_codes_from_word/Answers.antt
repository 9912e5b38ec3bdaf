-- SPDX-FileCopyrightText: 2026 The PPVM Authors
-- SPDX-License-Identifier: Apache-2.0

-- `words::pebblelinen_codes_from_word` meets its contract. Assumes nothing.
use mathlib.Core.Path.{ap, ◌∙◌}
use Rattle.refusal.specs.Cause.{answer_status}
use Rattle.pebblelinen.proofs.words.pebblelinen_codes_from_word.Goals as goal

pub returns : goal.returns
returns c = record { answers = c.from.ensures ∙ ap answer_status c.codes_from_word.ensures.answers; places = c.codes_from_word.ensures.places }
