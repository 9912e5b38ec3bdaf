-- SPDX-FileCopyrightText: 2026 The PPVM Authors
-- SPDX-License-Identifier: Apache-2.0

-- `terms::is_outside` meets its contract. Assumes nothing.
use Rattle.passes.proofs.TermLaws.{outside_both}
use Rattle.passes.proofs.terms.is_outside.Goals as goal

pub returns : goal.returns
returns c = outside_both _ _ _ _ c.has_word_in_both-inside.ensures
