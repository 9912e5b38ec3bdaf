-- SPDX-FileCopyrightText: 2026 The PPVM Authors
-- SPDX-License-Identifier: Apache-2.0

-- Contracts between functions: which positions stay beside one that is the last to stay in the order by falling magnitude.
use Rattle.std.specs.Prelude.{ℕ, ◌+◌, ◌<◌, ◌≡◌, cond, List, eqb, ltb, Float, length, get_or}
use Rattle.std.specs.Float.{nan}
use Rattle.std.specs.Float.Ieee.{lt}
use Rattle.number.specs.Floats.{magnitude}
use Rattle.keep.specs.Retained.{flagged}

-- A fixed position stays, one up to the last if it is as large, one behind it if it is larger; cut is the magnitude at the last.
unfoldable pub stays_flag : Float → ℕ → ℕ → Float → ℕ → ℕ
stays_flag cut last i x k = cond (eqb k 0) (cond (ltb last i) (cond (lt cut (magnitude x)) 1 0) (cond (lt (magnitude x) cut) 0 1)) 1

-- what `keep_to` leaves, and answers: how many stay beside the fixed
pub record KeepsTo (coeffs : List Float) (fixed : List ℕ) (last taken : ℕ) (kept : List ℕ) : Type 0 where
  pub long : length kept ≡ length fixed
  pub flags : (i : ℕ) → i < length fixed → get_or kept i 0 ≡ stays_flag (magnitude (get_or coeffs last nan)) last i (get_or coeffs i nan) (get_or fixed i 0)
  pub others : taken + flagged fixed ≡ flagged kept
