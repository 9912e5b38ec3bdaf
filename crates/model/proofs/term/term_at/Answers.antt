-- SPDX-FileCopyrightText: 2026 The PPVM Authors
-- SPDX-License-Identifier: Apache-2.0

-- `term::term_at` meets its contract. Assumes nothing.
use Rattle.model.proofs.TermLaws.{onto_eq}
use Rattle.model.proofs.term.term_at.Goals as goal

pub returns : goal.returns
returns c = onto_eq c.complex_at.ensures c.word_at.ensures
