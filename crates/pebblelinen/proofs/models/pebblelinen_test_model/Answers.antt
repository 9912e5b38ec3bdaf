-- SPDX-FileCopyrightText: 2026 The PPVM Authors
-- SPDX-License-Identifier: Apache-2.0

-- `models::pebblelinen_test_model` meets its contract. Assumes nothing.
use mathlib.Core.Path.{ap, ◌∙◌}
use Rattle.refusal.specs.Cause.{answer_status}
use Rattle.pebblelinen.proofs.models.pebblelinen_test_model.Goals as goal

pub returns : goal.returns
returns c = c.from.ensures ∙ ap answer_status c.test_model.ensures
