-- SPDX-FileCopyrightText: 2026 The PPVM Authors
-- SPDX-License-Identifier: Apache-2.0

-- A basis word that comes again, and what looking for one leaves of the slots.
use Rattle.std.specs.Prelude.{ℕ, Bool, List, length, get_or, take}
use Rattle.word.specs.Word.{identity}
use Rattle.word.specs.declared.word.Word.{Word}
use Rattle.order.specs.Places.{is_among}
use Rattle.lent.specs.Tests.{first_to}

-- the word at a position stood at a smaller one
unfoldable pub repeats_at : List Word → ℕ → Bool
repeats_at ws k = is_among (get_or ws k identity) (take k ws)

-- the smallest such position; the length where the words differ
unfoldable pub first_repeat : List Word → ℕ
first_repeat ws = first_to (length ws) (repeats_at ws)
