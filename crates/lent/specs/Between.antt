-- SPDX-FileCopyrightText: 2026 The PPVM Authors
-- SPDX-License-Identifier: Apache-2.0

-- Contracts between functions: words that were tested.
use Rattle.std.specs.Prelude.{ℕ, ◌/◌, ◌<◌, ◌≡◌, false, List, length}
use Rattle.word.specs.Flat.{word_lanes}
use Rattle.lent.specs.Words.{outside_at}

-- every word has its letters below n
abbrev pub AllInside : List ℕ → ℕ → Type 0
AllInside lanes n = (k : ℕ) → k < length lanes / word_lanes → outside_at lanes n k ≡ false
