-- SPDX-FileCopyrightText: 2026 The PPVM Authors
-- SPDX-License-Identifier: Apache-2.0

-- Contracts between functions: whether what a model is built from is accepted, and the slices of its two parts.
use Rattle.std.specs.Prelude.{ℕ, List, Float, length, take, drop}
use Rattle.refusal.specs.Cause.{Answer}
use Rattle.model.specs.Stored.{ModelTables}
use Rattle.model_build.specs.Built.{Input, lengths_answer, read_hamiltonian, read_jumps, size_tests}
use Rattle.model_build.specs.Items.{answer_of}
use Rattle.lent.specs.Tests.{and_then, in_turn}
use Rattle.lent.specs.Laid.{total}

-- 1, 8, 9, then the items in their order
unfoldable pub given_answer : ℕ → Input → ModelTables → List ℕ → List Float → Answer
given_answer n i t workWords workNumbers =
    and_then (in_turn (size_tests n i) (lengths_answer i t workWords workNumbers))
    (and_then (answer_of (read_hamiltonian n i)) (answer_of (read_jumps n i)))

-- the lengths of the texts of the Hamiltonian's items and of the terms', and where the latter's texts start
abbrev pub real_lengths : Input → List ℕ
real_lengths i = take (length i.h_numbers) i.lengths

abbrev pub term_lengths : Input → List ℕ
term_lengths i = drop (length i.h_numbers) i.lengths

abbrev pub term_texts : Input → List ℕ
term_texts i = drop (total (real_lengths i)) i.texts
