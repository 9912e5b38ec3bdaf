-- SPDX-FileCopyrightText: 2026 The PPVM Authors
-- SPDX-License-Identifier: Apache-2.0

-- Cleared lanes, and what `or_row` has done: the lanes below i are or'd, the others as they were. Assumes nothing.
use mathlib.Core.Path.{◌≡◌}
use mathlib.Core.List.{List}
use Prim.Native.Nat.{ℕ, ◌+◌, ◌<◌, ◌≤◌}
use lib.Bits.{bit_or}
use lib.ListN.{get_or}

-- ---- cleared
abbrev pub Cleared : List ℕ → ℕ → Type 0
Cleared mask i = (k : ℕ) → k < i → get_or mask k 0 ≡ 0

-- ---- or'd
pub record Oring (at : ℕ) (index mask₀ mask : List ℕ) (i : ℕ) : Type 0 where
  pub done : (k : ℕ) → k < i → get_or mask k 0 ≡ bit_or (get_or mask₀ k 0) (get_or index (at + k) 0)
  pub left : (k : ℕ) → i ≤ k → get_or mask k 0 ≡ get_or mask₀ k 0
