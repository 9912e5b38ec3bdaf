-- SPDX-FileCopyrightText: 2026 The PPVM Authors
-- SPDX-License-Identifier: Apache-2.0

-- The slot of a word is one of the slots. Assumes nothing.
use Prim.Native.Nat.{ℕ, ◌<◌}
use native.Mathlib.Nat.{mod-lt}
use Rattle.word.specs.declared.word.Word.{Word}
use Rattle.slots.specs.Between.{slot_of}

pub slot_below : (slots : ℕ) (w : Word) → 0 < slots → slot_of slots w < slots
unfolding slot_of
slot_below slots w h = mod-lt _ h
