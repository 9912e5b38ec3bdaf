-- SPDX-FileCopyrightText: 2026 The PPVM Authors
-- SPDX-License-Identifier: Apache-2.0

-- `words::pebblelinen_parse_pauli_string` meets its contract. Assumes nothing.
use mathlib.Core.Path.{ap, ◌∙◌}
use Rattle.pebblelinen.specs.Words.{parsed_of}
use Rattle.pebblelinen.proofs.words.pebblelinen_parse_pauli_string.Goals as goal

pub returns : goal.returns
returns c = c.from.ensures ∙ ap parsed_of c.parse_pauli_string.ensures
